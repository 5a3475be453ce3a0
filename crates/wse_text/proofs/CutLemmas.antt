-- The lines that a text is cut into begin where the byte in front of a place and those behind it say.
use Rattle.std.proofs.Common.{◌≡◌, ◌≢◌, ℕ, ◌+◌, ◌-◌, suc, Bool, false, not, cond, ◌&&◌, ◌||◌, List, [], ◌∷◌, ◌++◌, length, map, drop, filter, get_or, eqb, inl, inr, subst, refl, sym, ap, ◌∙◌, arith}
use Rattle.std.specs.List.{range_with_len}
use Rattle.std.specs.Str.{IsUtf8}
use Rattle.std.proofs.lemmas.Bool.{cases_eq, ne_eqb}
use Rattle.std.proofs.lemmas.List.{drop-drop, get_or-drop}
use Rattle.std.proofs.lemmas.List.Elements.{All-cons, All-nil}
use Rattle.wse_text.specs.Lines.{EndedLine, line_and_end, IsLineEnd, HoldsNoLineEnd, IsCut, starts_from, AreLineStarts}
use Rattle.wse_text.specs.Place.{begins_line, line_at, line_starts}
use Rattle.wse_text.proofs.PointLemmas.{IsPlain, line_at-starts_from}

-- A line begins between the byte `before` and the bytes `rest`.
abbrev begins : ℕ → List ℕ → Bool
begins before rest = eqb before 10 || (eqb before 13 && not (eqb (get_or rest 0 0) 10))

-- The starts of lines behind `place`, at which `rest` stands.
abbrev behind : ℕ → List ℕ → List ℕ
behind place [] = []
behind place (b ∷ bs) = cond (begins b bs) (suc place ∷ behind (suc place) bs) (behind (suc place) bs)

begins_is : (text : List ℕ) (place : ℕ) → begins_line text (suc place) ≡ begins (get_or text place 0) (drop (suc place) text)
begins_is text place =
    let start : eqb (suc place) 0 ≡ false = ne_eqb (suc place) 0 (λ e. absurd (omega arith)) in
    let before : suc place - 1 ≡ place = omega arith in
    let next : get_or text (suc place) 0 ≡ get_or (drop (suc place) text) 0 0 = ap (λ k. get_or text k 0) {x = suc place} {y = suc place + 0} (omega arith) ∙ sym (get_or-drop (suc place) text 0 0) in
    λ i. start i || eqb (get_or text (before i) 0) 10 || (eqb (get_or text (before i) 0) 13 && not (eqb (next i) 10))

head_of : (text : List ℕ) (place b : ℕ) (bs : List ℕ) → drop place text ≡ b ∷ bs → get_or text place 0 ≡ b
head_of text place b bs is = ap (λ k. get_or text k 0) {x = place} {y = place + 0} (omega arith) ∙ sym (get_or-drop place text 0 0) ∙ ap (λ rest. get_or rest 0 0) is

tail_of : (text : List ℕ) (place b : ℕ) (bs : List ℕ) → drop place text ≡ b ∷ bs → drop (suc place) text ≡ bs
tail_of text place b bs is = ap (λ k. drop k text) {x = suc place} {y = place + 1} (omega arith) ∙ sym (drop-drop 1 place text) ∙ ap (drop 1) is

filter-behind : (text : List ℕ) (place : ℕ) (rest : List ℕ) → drop place text ≡ rest → filter (begins_line text) (range_with_len (suc place) (length rest)) ≡ behind place rest
filter-behind text place [] is = refl
filter-behind text place (b ∷ bs) is =
    let here : begins_line text (suc place) ≡ begins b bs = begins_is text place ∙ (λ i. begins (head_of text place b bs is i) (tail_of text place b bs is i)) in
    let next : suc place + 1 ≡ suc (suc place) = omega arith in
    let others : filter (begins_line text) (range_with_len (suc place + 1) (length bs)) ≡ behind (suc place) bs = ap (λ k. filter (begins_line text) (range_with_len k (length bs))) next ∙ filter-behind text (suc place) bs (tail_of text place b bs is) in
    λ i. cond (here i) (suc place ∷ others i) (others i)

line_starts-behind : (text : List ℕ) → line_starts text ≡ 0 ∷ behind 0 text
line_starts-behind text =
    ap (λ n. filter (begins_line text) (range_with_len 0 n)) {x = length text + 1} {y = suc (length text)} (omega arith)
    ∙ ap (λ starts. 0 ∷ starts) (filter-behind text 0 text refl)

-- A cutting of `rest`, which stands at `place`, and where its lines begin.
record Cutting (rest : List ℕ) (place : ℕ) : Type 0 where
  ended : List EndedLine
  last : List ℕ
  cut : IsCut rest ended last
  begin : place ∷ behind place rest ≡ starts_from place ended

nothing : (place : ℕ) → Cutting [] place
nothing place = record { ended = []; last = []; cut = (refl, All-nil _); begin = refl }

-- A line in front of a cutting.
in_front : (first : EndedLine) (rest : List ℕ) (place next : ℕ) → HoldsNoLineEnd first.line → IsLineEnd first.end → (first.end ≡ 13 ∷ [] → get_or rest 0 0 ≢ 10) → next ≡ place + length (line_and_end first) → behind place (line_and_end first ++ rest) ≡ next ∷ behind next rest → Cutting rest next → Cutting (line_and_end first ++ rest) place
in_front first rest place next plain end whole next_is starts others = record {
  ended = first ∷ others.ended;
  last = others.last;
  cut = (rest, refl, plain, end, whole, others.cut);
  begin = ap (λ ks. place ∷ ks) (starts ∙ others.begin ∙ ap (λ k. starts_from k others.ended) next_is);
}

line_feed : (rest : List ℕ) (place : ℕ) → Cutting rest (suc place) → Cutting (10 ∷ rest) place
line_feed rest place others =
    in_front (record { line = []; end = 10 ∷ [] }) rest place (suc place) (All-nil _) (inl refl) (λ e. absurd (let h : 10 ≡ 13 = ap (λ xs. get_or xs 0 0) e in omega arith)) (omega arith) refl others

return_and_feed : (rest : List ℕ) (place : ℕ) → Cutting rest (suc (suc place)) → Cutting (13 ∷ 10 ∷ rest) place
return_and_feed rest place others =
    in_front (record { line = []; end = 13 ∷ 10 ∷ [] }) rest place (suc (suc place)) (All-nil _) (inr (inl refl)) (λ e. absurd (let h : 10 ≡ 0 = ap (λ xs. get_or xs 1 0) e in omega arith)) (omega arith) refl others

return_alone : (rest : List ℕ) (place : ℕ) → get_or rest 0 0 ≢ 10 → Cutting rest (suc place) → Cutting (13 ∷ rest) place
return_alone rest place alone others =
    in_front (record { line = []; end = 13 ∷ [] }) rest place (suc place) (All-nil _) (inr (inr refl)) (λ e. alone) (omega arith)
    (ap (λ b. cond (not b) (suc place ∷ behind (suc place) rest) (behind (suc place) rest)) (ne_eqb (get_or rest 0 0) 10 alone)) others

-- A byte more in front of the first line.
lengthened : (b : ℕ) (rest : List ℕ) (place : ℕ) (ended : List EndedLine) (last : List ℕ) → b ≢ 10 → b ≢ 13 → IsCut rest ended last → suc place ∷ behind (suc place) rest ≡ starts_from (suc place) ended → place ∷ behind place (b ∷ rest) ≡ place ∷ behind (suc place) rest → Cutting (b ∷ rest) place
lengthened b rest place [] last feed return cut begin same = record {
  ended = [];
  last = b ∷ last;
  cut = (ap (λ bs. b ∷ bs) cut.0, All-cons IsPlain b last (feed, return) cut.1);
  begin = same ∙ ap (λ ks. place ∷ drop 1 ks) begin;
}
lengthened b rest place (first ∷ others) last feed return cut begin same =
    let next : suc place + length (line_and_end first) ≡ place + suc (length (line_and_end first)) = omega arith in
    record {
      ended = record { line = b ∷ first.line; end = first.end } ∷ others;
      last = last;
      cut = (cut.0, ap (λ bs. b ∷ bs) cut.1, All-cons IsPlain b first.line (feed, return) cut.2, cut.3, cut.4, cut.5);
      begin = same ∙ ap (λ ks. place ∷ drop 1 ks) begin ∙ ap (λ k. place ∷ starts_from k others) next;
    }

ordinary : (b : ℕ) (rest : List ℕ) (place : ℕ) → b ≢ 10 → b ≢ 13 → Cutting rest (suc place) → Cutting (b ∷ rest) place
ordinary b rest place feed return others =
    let no_feed = ne_eqb b 10 feed in
    let no_return = ne_eqb b 13 return in
    let none : begins b rest ≡ false = λ i. no_feed i || (no_return i && not (eqb (get_or rest 0 0) 10)) in
    lengthened b rest place others.ended others.last feed return others.cut others.begin (ap (λ t. place ∷ cond t (suc place ∷ behind (suc place) rest) (behind (suc place) rest)) none)

by_byte : (b : ℕ) (rest : List ℕ) (place : ℕ) → Cutting rest (suc place) → (get_or rest 0 0 ≡ 10 → Cutting (13 ∷ rest) place) → Cutting (b ∷ rest) place
by_byte b rest place others with_feed = elim (cases_eq b 10) [
  | inl feed ↦ subst (λ b. Cutting (b ∷ rest) place) (sym feed) (line_feed rest place others)
  | inr no_feed ↦ elim (cases_eq b 13) [
    | inl return ↦ subst (λ b. Cutting (b ∷ rest) place) (sym return) (elim (cases_eq (get_or rest 0 0) 10) [
      | inl follows ↦ with_feed follows
      | inr alone ↦ return_alone rest place alone others
    ])
    | inr no_return ↦ ordinary b rest place no_feed no_return others
  ]
]

cutting : (rest : List ℕ) (place : ℕ) → Cutting rest place
cutting [] place = nothing place
cutting (b ∷ []) place = by_byte b [] place (nothing (suc place)) (λ e. absurd (let h : 0 ≡ 10 = e in omega arith))
cutting (b ∷ c ∷ bs) place =
    by_byte b (c ∷ bs) place (cutting (c ∷ bs) (suc place)) (λ e. subst (λ c. Cutting (13 ∷ c ∷ bs) place) (sym e) (return_and_feed bs place (cutting bs (suc (suc place)))))

-- The starts of lines are those of the lines that the text is cut into.
pub AreLineStarts-line_starts : (text : List ℕ) → IsUtf8 text → AreLineStarts text (line_starts text)
AreLineStarts-line_starts text utf8 =
    let whole = cutting text 0 in
    let begin : line_starts text ≡ starts_from 0 whole.ended = line_starts-behind text ∙ whole.begin in
    record {
      ended = whole.ended;
      last = whole.last;
      cut = whole.cut;
      begin = begin;
      points = ap (map (line_at text)) begin ∙ line_at-starts_from text [] text 0 whole.ended whole.last refl refl utf8 whole.cut;
    }

pub AreLineStarts-from_same : (text places : List ℕ) → IsUtf8 text → places ≡ line_starts text → AreLineStarts text places
AreLineStarts-from_same text places utf8 same = subst (AreLineStarts text) (sym same) (AreLineStarts-line_starts text utf8)
