-- What a part of a record holds: the content of its path before the record's command and after it.
use Rattle.std.specs.Prelude.{ℕ, List, Option, None, length}
use Rattle.std.specs.Option.{option_map_or}
use Rattle.wse_element.specs.declared.body.Body.{Body}
use Rattle.wse_element.specs.declared.body.Body.TheVariants.{Whole}

-- The bytes at a path, or None where there is no file.
abbrev pub Content : Type 0
Content = Option (List ℕ)

abbrev pub old_content : Body → Content
old_content (Whole was is) = was

abbrev pub new_content : Body → Content
new_content (Whole was is) = is

-- Neither of them.
abbrev pub no_contents : Body
no_contents = Whole None None

-- How many bytes there are.
abbrev pub content_len : Content → ℕ
content_len content = option_map_or (λ bytes. length bytes) content 0
