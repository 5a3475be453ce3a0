-- Why a line is refused, as JSON with the members in byte order of their names. This project's own rule.
use Rattle.std.specs.Prelude.{ℕ, List, codes}
use Rattle.serde_json.specs.Data.{Data, no_members, member, object, number, string, unsigned}
use Rattle.wse_uri.specs.declared.refused.UriRefused.{UriRefused}
use Rattle.wse_uri.specs.Words.{uri_text}
use Rattle.wse_json.specs.declared.shape.Shape.{Shape}
use Rattle.wse_json.specs.declared.shape.Shape.TheVariants as shapes

-- The members that each refusal has: the line's number, and the cause.
abbrev pub refused_data : ℕ → List ℕ → Data
refused_data n why = object
    (member (codes "n") (number (unsigned n))
    (member (codes "refused") (string why) no_members))

abbrev pub field_data : ℕ → List ℕ → Data
field_data n pointer = object
    (member (codes "at") (string pointer)
    (member (codes "n") (number (unsigned n))
    (member (codes "refused") (string (codes "field")) no_members)))

abbrev pub uri_data : ℕ → List ℕ → UriRefused → Data
uri_data n pointer why = object
    (member (codes "at") (string pointer)
    (member (codes "n") (number (unsigned n))
    (member (codes "refused") (string (codes "uri"))
    (member (codes "why") (string (uri_text why)) no_members))))

abbrev pub annotation_data : ℕ → List ℕ → Data
annotation_data n id = object
    (member (codes "id") (string id)
    (member (codes "n") (number (unsigned n))
    (member (codes "refused") (string (codes "annotation")) no_members)))

abbrev pub too_long_data : (n bytes : ℕ) → Data
too_long_data n bytes = object
    (member (codes "bytes") (number (unsigned bytes))
    (member (codes "n") (number (unsigned n))
    (member (codes "refused") (string (codes "too long")) no_members)))

-- The line is no command. Want of memory is no cause, and never told.
abbrev pub shape_data : ℕ → Shape → Data
shape_data n shapes.NotJson = refused_data n (codes "not JSON")
shape_data n (shapes.Field pointer) = field_data n pointer
shape_data n (shapes.Uri pointer why) = uri_data n pointer why
shape_data n (shapes.Annotation id) = annotation_data n id
shape_data n shapes.Memory = refused_data n (codes "out of memory")
