use Rattle.std.proofs.Common.{◌^◌, ◌<◌, ℕ, List, length, sym, subst, ◌∙◌}
use Rattle.std.specs.Prelude.{Result, Ok, Err, IfOk}
use Rattle.std.specs.List.{All}
use Rattle.wse_path.specs.declared.change.Numbered.{Numbered}
use Rattle.wse_recover.specs.Versions.{HasShortText}
use Rattle.wse_recover.proofs.VersionLemmas.{spellable, spells_new}
use Rattle.wse_recover.proofs.first.new_store.Goals as goal

if_ok : {T E : Type 0} (P Q : T → Type 0) (result : Result T E) → ((x : T) → P x → Q x) → IfOk result P → IfOk result Q
if_ok P Q (Ok x) f p = f x p
if_ok P Q (Err e) f p = tt

pub write_state-requires : goal.write_state-requires
write_state-requires c =
    spellable c.args.paths.items c.new.result c.new-3.result c.requires.few
    (subst (λ (vs : List Numbered). All HasShortText vs) (sym c.new.ensures) c.in_ok-versions.ensures.short)
    (c.new.ensures ∙ c.in_ok-versions.ensures.versions) (c.new-3.ensures ∙ c.new-2.ensures.items)

pub fresh_journal-requires : goal.fresh_journal-requires
fresh_journal-requires c =
    let ready = spellable c.args.paths.items c.new.result c.new-3.result c.requires.few
    (subst (λ (vs : List Numbered). All HasShortText vs) (sym c.new.ensures) c.in_ok-versions.ensures.short)
    (c.new.ensures ∙ c.in_ok-versions.ensures.versions) (c.new-3.ensures ∙ c.new-2.ensures.items) in
    subst (λ (bytes : List ℕ). length bytes < 2 ^ 32) (sym (c.as_slice.ensures ∙ c.in_ok-body.ensures.spelled)) ready.short

pub returns-clause-spelled : goal.returns-clause-spelled
returns-clause-spelled c =
    if_ok _ _ c.fresh_journal.result
    (λ bytes is files names sorted.
    spells_new c.args.paths.items c.new.result c.new-3.result c.requires.few
    (subst (λ (vs : List Numbered). All HasShortText vs) (sym c.new.ensures) c.in_ok-versions.ensures.short)
    (c.new.ensures ∙ c.in_ok-versions.ensures.versions) (c.new-3.ensures ∙ c.new-2.ensures.items)
    c.as_slice.result.now bytes.items files c.in_ok-body.ensures.allowed (c.as_slice.ensures ∙ c.in_ok-body.ensures.spelled) is names sorted)
    c.fresh_journal.ensures
