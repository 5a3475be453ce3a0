use Rattle.std.proofs.Common.{◌≡◌, true, sym, subst, ◌∙◌}
use Rattle.wse_path.specs.Versions.{Numbers}
use Rattle.wse_element.specs.Numbers.{are_versions_bounded, is_known_bounded}
use Rattle.wse_codec.specs.Allowed.{numbers_of}
use Rattle.wse_recover.proofs.SnapshotLemmas.{of_some, put_all_is, known_fits, known_over}
use Rattle.wse_recover.proofs.snapshot.held_versions.Goals as goal

pub returns-then-known-gt-MAX_KNOWN-clause-none : goal.returns-then-known-gt-MAX_KNOWN-clause-none
returns-then-known-gt-MAX_KNOWN-clause-none c = λ _ _ known.
    let numbers = numbers_of c.args.versions in
    let all_is = of_some (λ all. all.items ≡ numbers) c.in_ok-all.field-0 c.in-Some.all c.in-Some.is c.in_ok-all.ensures.all in
    let same = put_all_is c.reserve.new.self.entries c.in-Some.all.items numbers c.bump_all.new.self.entries (c.in_ok-reserve.ensures.same ∙ c.new-held.ensures) all_is c.requires.rise c.bump_all.ensures.entries in
    known_over c.bump_all.new.self.entries c.known.result c.known.ensures c.if-known-gt-MAX_KNOWN.true (subst (λ (ns : Numbers). is_known_bounded ns ≡ true) (sym same) known)

pub returns-clause-held : goal.returns-clause-held
returns-clause-held c =
    let numbers = numbers_of c.args.versions in
    let all_is = of_some (λ all. all.items ≡ numbers) c.in_ok-all.field-0 c.in-Some.all c.in-Some.is c.in_ok-all.ensures.all in
    let same = put_all_is c.reserve.new.self.entries c.in-Some.all.items numbers c.bump_all.new.self.entries (c.in_ok-reserve.ensures.same ∙ c.new-held.ensures) all_is c.requires.rise c.bump_all.ensures.entries in
    record {
      same = same;
      bounded = of_some (λ all. are_versions_bounded c.args.serial numbers ≡ true) c.in_ok-all.field-0 c.in-Some.all c.in-Some.is c.in_ok-all.ensures.bounded;
      known = subst (λ (ns : Numbers). is_known_bounded ns ≡ true) same (known_fits c.bump_all.new.self.entries c.known.result c.known.ensures c.if-known-gt-MAX_KNOWN.false);
    }
