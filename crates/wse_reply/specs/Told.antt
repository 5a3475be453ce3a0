-- The answers that tell a result, and what is known of a path, as JSON with the members in byte order of their names. This
-- project's own rule.
use Rattle.std.specs.Prelude.{ℕ, List, codes, Option}
use Rattle.serde_json.specs.Data.{Members, no_members, member, string}
use Rattle.wse_path.specs.Path.{Path, text_of}
use Rattle.wse_path.specs.declared.change.Numbered.{Numbered}
use Rattle.wse_path.specs.declared.limits.Hit.{Hit}
use Rattle.wse_reply.specs.Limits.{limit_name}
use Rattle.wse_reply.specs.Values.{number_data, number_or_null, text_or_null, versions_data, files_data}

-- Nothing but the result.
abbrev pub result_members : ℕ → List ℕ → Members
result_members n result =
    (member (codes "n") (number_data n)
    (member (codes "result") (string result) no_members))

-- The result with the files that it is about.
abbrev pub files_members : ℕ → List Path → List ℕ → Members
files_members n files result =
    (member (codes "files") (files_data files)
    (member (codes "n") (number_data n)
    (member (codes "result") (string result) no_members)))

-- The participant doesn't hold this file.
abbrev pub not_held_members : ℕ → Path → Members
not_held_members n file =
    (member (codes "file") (string (text_of file))
    (member (codes "n") (number_data n)
    (member (codes "result") (string (codes "not held")) no_members)))

-- What another program did is recorded.
abbrev pub recorded_members : ℕ → List Numbered → Members
recorded_members n changed =
    (member (codes "changed") (versions_data changed)
    (member (codes "n") (number_data n)
    (member (codes "result") (string (codes "recorded")) no_members)))

-- A limit would be passed.
abbrev pub refused_members : ℕ → Hit → Members
refused_members n hit =
    (member (codes "n") (number_data n)
    (member (codes "result") (string (codes "limit"))
    (member (codes "which") (string (limit_name hit.which))
    (member (codes "would_be") (number_data hit.would_be) no_members))))

-- What is known of a path.
abbrev pub look_members : ℕ → (bytes : Option ℕ) → (text : Option (List ℕ)) → (version : ℕ) → (past future holder : Option ℕ) → Members
look_members n bytes text version past future holder =
    (member (codes "bytes") (number_or_null bytes)
    (member (codes "future") (number_or_null future)
    (member (codes "holder") (number_or_null holder)
    (member (codes "n") (number_data n)
    (member (codes "past") (number_or_null past)
    (member (codes "text") (text_or_null text)
    (member (codes "version") (number_data version) no_members)))))))
