-- A new journal.
use Rattle.std.proofs.Common.{ℕ, List, [], ◌∷◌, ◌++◌, length, refl, sym, ◌∙◌, ap, arith, append_assoc}
use Rattle.std.proofs.lemmas.List.Elements.{All-nil}
use Rattle.wse_log.specs.Grammar.{HasShortBody, IsSettled, header, framed}
use Rattle.wse_log.specs.Writing.{settled}
use Rattle.wse_log.specs.Laws.{FreshJournalsRead}
use Rattle.wse_log.proofs.Fronts.{front-nil, front-push, length-front-push}
use Rattle.wse_log.proofs.Order.{order-push}

pub fresh_reads : FreshJournalsRead
fresh_reads body short = record {
  order = order-push [] (settled body) (All-nil HasShortBody) (All-nil IsSettled) short (λ none. refl);
  ends = record {
    some = λ e. cc;
    byte = 0;
    rest = [];
    closed = λ e. omega (arith, e);
    spelled = sym (append_assoc header (framed (settled body)) (0 ∷ [])) ∙ ap (λ (l : List ℕ). l ++ 0 ∷ []) (sym (front-push [] (settled body) ∙ ap (λ (l : List ℕ). l ++ framed (settled body)) front-nil));
    place = omega (arith, length-front-push [] (settled body), ap length front-nil);
  };
}
