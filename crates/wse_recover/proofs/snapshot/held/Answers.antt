use Rattle.wse_recover.specs.Snapshot.{AreHeld}
use Rattle.wse_codec.specs.Allowed.{numbers_of}
use Rattle.wse_recover.proofs.SnapshotLemmas.{of_some, allowed_some}
use Rattle.wse_recover.proofs.snapshot.held.Goals as goal

pub held_versions-requires-clause-some : goal.held_versions-requires-clause-some
held_versions-requires-clause-some c = allowed_some c.args.state.versions c.requires.versions.each

pub returns-in-Some-clause-held : goal.returns-in-Some-clause-held
returns-in-Some-clause-held c =
    let state = c.args.state in
    let are = of_some (λ held. AreHeld state.serial (numbers_of state.versions) held.entries) c.in_ok-versions.field-0 c.in-Some.versions c.in-Some.is c.in_ok-versions.ensures.held in
    record {
      same = λ i. record {
        versions = are.same i;
        records = (c.in-Ok.ensures.state i).records;
        next_id = (c.in-Ok.ensures.state i).next_id;
        serial = (c.in-Ok.ensures.state i).serial;
      };
      linked = record {
        records = c.in-Ok.ensures.linked;
        rise = c.requires.versions.rise;
        some = allowed_some state.versions c.requires.versions.each;
        bounded = c.in-Ok.ensures.bounded;
        versions = are.bounded;
        known = are.known;
      };
    }
