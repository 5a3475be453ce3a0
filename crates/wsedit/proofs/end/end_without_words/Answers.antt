use Rattle.wsedit.proofs.StatusLemmas.{told_or_rose}
use Rattle.wsedit.proofs.end.end_without_words.Goals as goal

pub returns-clause-told : goal.returns-clause-told
returns-clause-told g c =
    let told = c.tell.ensures.told in
    record { told = told.0; adds = told.1; front = told.2; whole = told_or_rose c.tell.result _ _ told.3 c.tell.ensures.cause }
