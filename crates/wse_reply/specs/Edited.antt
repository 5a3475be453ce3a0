-- The answer to an edit, as JSON with the members in byte order of their names. This project's own rule.
use Rattle.std.specs.Prelude.{ℕ, true, false, List, codes, Option, Some, None}
use Rattle.serde_json.specs.Data.{Members, no_members, member, object, null, boolean, string}
use Rattle.wse_path.specs.declared.change.Numbered.{Numbered}
use Rattle.wse_path.specs.declared.limits.Hit.{Hit}
use Rattle.wse_apply.specs.declared.reason.Reason.{Reason}
use Rattle.wse_apply.specs.declared.skips.Skip.{Skip}
use Rattle.wse_reply.specs.Limits.{limit_text}
use Rattle.wse_reply.specs.Reasons.{reason_text}
use Rattle.wse_reply.specs.Values.{number_data, number_or_null, versions_data, skips_data}

-- The edit was applied.
abbrev pub applied_members : ℕ → List Numbered → Option ℕ → List Skip → Members
applied_members n changed element skipped =
    (member (codes "applied") (boolean true)
    (member (codes "changed") (versions_data changed)
    (member (codes "element") (number_or_null element)
    (member (codes "n") (number_data n)
    (member (codes "skipped") (skips_data skipped) no_members)))))

-- An operation failed: the one with this index, for this reason.
abbrev pub failed_members : ℕ → List Numbered → Option ℕ → (index : ℕ) → Reason → List Skip → Members
failed_members n changed element index why skipped =
    (member (codes "applied") (boolean false)
    (member (codes "changed") (versions_data changed)
    (member (codes "element") (number_or_null element)
    (member (codes "failedChange") (number_data index)
    (member (codes "failureReason") (string (reason_text why))
    (member (codes "n") (number_data n)
    (member (codes "skipped") (skips_data skipped) no_members)))))))

-- The whole edit would pass a limit. Nothing changed.
abbrev pub limit_members : ℕ → Hit → List Skip → Members
limit_members n hit skipped =
    (member (codes "applied") (boolean false)
    (member (codes "changed") (object no_members)
    (member (codes "element") null
    (member (codes "failureReason") (string (limit_text hit))
    (member (codes "n") (number_data n)
    (member (codes "skipped") (skips_data skipped) no_members))))))

-- The answer to an edit, by what failed and which limit it would pass.
abbrev pub edit_members : ℕ → List Numbered → Option ℕ → Option (ℕ × Reason) → Option Hit → List Skip → Members
edit_members n changed element (Some failed) limit skipped = failed_members n changed element failed.0 failed.1 skipped
edit_members n changed element None (Some hit) skipped = limit_members n hit skipped
edit_members n changed element None None skipped = applied_members n changed element skipped
