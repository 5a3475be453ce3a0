use Rattle.std.proofs.Common.{List, length, Option, sym, ap, subst, arith}
use Rattle.wse_path.specs.Path.{Path}
use Rattle.wse_disk.specs.Standing.{Standing}
use Rattle.wse_disk.specs.Calls.{ReadsNames}
use Rattle.wse_recover.proofs.FirstLemmas.{files_within, spells_told}
use Rattle.wse_recover.proofs.first.first_journal.Goals as goal

pub measure-requires : goal.measure-requires
measure-requires g c = record {
  names = subst (λ (t : Option Standing). ReadsNames t c.as_slice.result.now) (sym c.in_ok-names.ensures.same)
      (subst (λ (ps : List Path). ReadsNames (g.D.Disk.told c.args.disk.now) ps) (sym c.as_slice.ensures.value) c.in_ok-names.ensures.reads);
}

pub new_store-requires : goal.new_store-requires
new_store-requires g c = record {
  few = omega (arith, ap length c.as_slice.ensures.value, c.in_ok-hit.ensures.few c.in_default.is, files_within c.args.limits.now c.requires.within);
}

pub returns-clause-spelled : goal.returns-clause-spelled
returns-clause-spelled g c =
    spells_told (g.D.Disk.told c.args.disk.now) c.names.new.into.items _ (g.met.D.Disk.reads_an_image c.args.disk.now) c.in_ok-names.ensures.reads c.in_ok-new_store.ensures.spelled
