use Rattle.std.proofs.Common.{◌≡◌, ◌+◌, ◌<◌, ◌^◌, ℕ, List, sym, ap, subst, ◌∙◌}
use Rattle.wse_path.specs.Tree.{Entries}
use Rattle.wse_log.specs.Grammar.{JournalRecord, Reads}
use Rattle.wse_txn.specs.Stands.{finished, journal_of}
use Rattle.wse_slow_reader.specs.declared.given.Given.{Given}
use Rattle.wse_slow_reader.specs.Split.{end_of, length_of}
use Rattle.wse_slow_reader.specs.Given.{IsGiven}
use Rattle.wse_slow_reader.proofs.ReadLemmas.{stands, stands_not}
use Rattle.wse_slow_reader.proofs.read.read_slowly.Goals as goal

pub replay-requires-clause-reads : goal.replay-requires-clause-reads
replay-requires-clause-reads c =
    let area = c.journal.result.now in
    (area, subst (λ (rs : List JournalRecord). Reads area rs (end_of c.in_ok-parts.parts.ending)) (sym c.deref.ensures.value) c.in_ok-parts.ensures.reads)

pub replay-requires-clause-room : goal.replay-requires-clause-room
replay-requires-clause-room c = subst (λ (rs : List JournalRecord). 8 + length_of rs < 2 ^ 64) (sym c.deref.ensures.value) c.in_ok-parts.ensures.room

pub returns-in-Leaves : goal.returns-in-Leaves
returns-in-Leaves c =
    let image = c.args.image.now in
    let parts = c.in_ok-parts.parts in
    let records = parts.records.items in
    let ending = end_of parts.ending in
    let left = c.in-Leaves.left in
    let reads = subst (λ (area : List ℕ). Reads area records ending) c.journal.ensures c.in_ok-parts.ensures.reads in
    let given = subst (λ (rs : List JournalRecord). IsGiven rs ending c.in_ok-left.field-0) c.deref.ensures.value c.in_ok-left.ensures in
    let leaves = subst (λ (g : Given). IsGiven records ending g) c.in-Leaves.is given in
    let files = c.in_ok-state-in-Leaves.ensures.files ∙ (λ i. finished (c.deref-in-Leaves.ensures.value i) left.sets (c.files.ensures i)) in
    stands image c.in_ok-state-in-Leaves.state left records ending reads leaves c.in_ok-state-in-Leaves.ensures.kept files

pub returns : goal.returns
returns c =
    let image = c.args.image.now in
    let parts = c.in_ok-parts.parts in
    let records = parts.records.items in
    let ending = end_of parts.ending in
    let reads = subst (λ (area : List ℕ). Reads area records ending) c.journal.ensures c.in_ok-parts.ensures.reads in
    let given = subst (λ (rs : List JournalRecord). IsGiven rs ending c.in_ok-left.field-0) c.deref.ensures.value c.in_ok-left.ensures in
    stands_not image c.in-NoStore.at records ending reads (subst (λ (g : Given). IsGiven records ending g) c.in-NoStore.is given)
