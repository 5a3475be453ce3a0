use Rattle.std.proofs.Common.{◌≡◌, ◌⊎◌, sym, subst}
use Rattle.wsedit.proofs.StatusLemmas.{told_or_rose}
use Rattle.wsedit.proofs.DoneLemmas.{done_by, made_by, shown_by}
use Rattle.wsedit.proofs.program.run_within.Goals as goal

pub returns-clause-ends : goal.returns-clause-ends
returns-clause-ends g c =
    let told = c.tell.ensures.told in
    record {
      end = c.run_words-status.result.status;
      is_status = c.code.ensures;
      does = c.run_words-status.ensures.does;
      told = record { told = told.0; adds = told.1; front = told.2; whole = told_or_rose c.tell.result _ _ told.3 c.tell.ensures.cause };
    }

pub returns-clause-complete : goal.returns-clause-complete
returns-clause-complete g c = λ tree store root adopt max_input asked s told is calm.
    subst (λ n. (n ≡ 0) ⊎ (n ≡ 6)) (sym c.code.ensures)
    (done_by c.args.limits _ _ _ _ tree store root adopt max_input c.run_words-status.result.status s told is calm c.run_words-status.ensures.causes (c.run_words-status.ensures.does _ asked))

pub returns-clause-makes : goal.returns-clause-makes
returns-clause-makes g c = λ tree store asked s told fits calm.
    subst (λ n. (n ≡ 0) ⊎ (n ≡ 6)) (sym c.code.ensures)
    (made_by c.args.limits _ _ _ _ tree store c.run_words-status.result.status s told fits calm c.run_words-status.ensures.causes (c.run_words-status.ensures.does _ asked))

pub returns-clause-shows : goal.returns-clause-shows
returns-clause-shows g c = λ tree store asked s told is out calm.
    subst (λ n. (n ≡ 0) ⊎ (n ≡ 6)) (sym c.code.ensures)
    (shown_by c.args.limits _ _ _ _ tree store c.run_words-status.result.status s told is out calm c.run_words-status.ensures.causes (c.run_words-status.ensures.does _ asked))
