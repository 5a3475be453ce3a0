-- Contents, labels and bodies: what is read of one is spelled so, and what is spelled so is read.
use Rattle.std.proofs.Common.{◌≡◌, ℕ, ◌^◌, ◌<◌, ◌≤◌, Bool, true, false, ◌&&◌, cond, eqb, leb, List, [], ◌∷◌, ◌++◌, length, Some, None, is_none, Ok, refl, sym, ap, subst, ◌∙◌, append_assoc, arith, inl, inr}
use Rattle.std.specs.Str.{is_utf8}
use Rattle.std.specs.Int.{w16, w32, to_be_bytes}
use Rattle.std.proofs.lemmas.Bool.{eqb-true, leb-true, le-leb}
use Rattle.std.proofs.lemmas.Str.{IsUtf8-from_is_utf8, is_utf8-from_IsUtf8}
use Rattle.wse_path.specs.Changes.{is_same}
use Rattle.wse_element.specs.declared.state.PartState.{PartState}
use Rattle.wse_element.specs.declared.state.PartState.TheVariants.{Live, Closed, Incompatible}
use Rattle.wse_element.specs.declared.body.Body.{Body}
use Rattle.wse_element.specs.declared.body.Body.TheVariants.{Whole}
use Rattle.wse_element.specs.Content.{Content, old_content, new_content, no_contents}
use Rattle.wse_element.specs.Record.{IsBodyOf}
use Rattle.wse_element.proofs.PartLemmas.{differs}
use Rattle.wse_codec.specs.Spelling.{run_bytes, content_bytes, label_bytes, state_byte, flag_byte, flags_byte, body_bytes}
use Rattle.wse_codec.specs.Allowed.{IsAllowedContent, IsAllowedLabel, IsReason, IsRise}
use Rattle.wse_codec.specs.Pieces.{◌>>=◌, where_allowed, run_at, coded_at}
use Rattle.wse_codec.specs.Reading.{counted_at, flag_of, flag_at, content_behind, content_at, label_at, state_of, state_at, flags_of, flags_at, reason_of, rise_of, may_hold, contents_at, body_at}
use Rattle.wse_codec.proofs.FieldLemmas.{IsBytes, IsPiece, Takes, then_takes, step, guarded, allowed_ok, ok_is, number16, number32, byte, run, chosen, coded, code_row}

-- ---- bytes with their length

run_takes : (bytes : List ℕ) (x : List ℕ × List ℕ) → IsBytes bytes → counted_at bytes ≡ Ok x → Takes bytes (run_bytes x.0) x.1 × (length x.0 < 2 ^ 32)
unfolding counted_at run_bytes
run_takes bytes x fits e =
    let a = step number32 bytes (λ len. run_at len.0 len.1) x fits e in
    let t = (run a.value).takes a.rest x a.took.rest_fits a.goes_on in
    let both = then_takes a.took t.0 in
    subst (λ (n : ℕ). Takes bytes (to_be_bytes w32 n ++ x.0) x.1 × (n < 2 ^ 32)) (sym t.1) (both, a.allowed)

run_again : (text rest : List ℕ) → length text < 2 ^ 32 → counted_at (run_bytes text ++ rest) ≡ Ok (text, rest)
unfolding counted_at run_bytes
run_again text rest lt = rw (number32.again (length text) (text ++ rest) lt, (run (length text)).again text rest refl) refl

pub counted_run : IsPiece counted_at run_bytes (λ text. length text < 2 ^ 32)
counted_run = record { takes = run_takes; again = run_again }

-- ---- flags, states, reasons and rises

flag_back : (b : ℕ) (v : Bool) → flag_of b ≡ Some v → (flag_byte v ≡ b) × Unit {0}
unfolding flag_of flag_byte
flag_back b v e =
    elim (chosen b 0 (Some false) (cond (eqb b 1) (Some true) None) (Some v) e) [
      | inl h ↦ code_row flag_byte (λ v. Unit {0}) b 0 false v h refl tt
      | inr e1 ↦ elim (chosen b 1 (Some true) None (Some v) e1) [
        | inl h ↦ code_row flag_byte (λ v. Unit {0}) b 1 true v h refl tt
        | inr e9 ↦ absurd cc
      ]
    ]

flag_again : (v : Bool) → Unit {0} → flag_of (flag_byte v) ≡ Some v
unfolding flag_of flag_byte
flag_again true h = refl
flag_again false h = refl

pub flag : IsPiece flag_at (λ v. flag_byte v ∷ []) (λ v. Unit {0})
flag = coded (record { back = flag_back; again = flag_again })

state_back : (b : ℕ) (v : PartState) → state_of b ≡ Some v → (state_byte v ≡ b) × Unit {0}
unfolding state_of state_byte
state_back b v e =
    elim (chosen b 0 (Some Live) (cond (eqb b 1) (Some Closed) (cond (eqb b 2) (Some Incompatible) None)) (Some v) e) [
      | inl h ↦ code_row state_byte (λ v. Unit {0}) b 0 Live v h refl tt
      | inr e1 ↦ elim (chosen b 1 (Some Closed) (cond (eqb b 2) (Some Incompatible) None) (Some v) e1) [
        | inl h ↦ code_row state_byte (λ v. Unit {0}) b 1 Closed v h refl tt
        | inr e2 ↦ elim (chosen b 2 (Some Incompatible) None (Some v) e2) [
          | inl h ↦ code_row state_byte (λ v. Unit {0}) b 2 Incompatible v h refl tt
          | inr e9 ↦ absurd cc
        ]
      ]
    ]

state_again : (v : PartState) → Unit {0} → state_of (state_byte v) ≡ Some v
unfolding state_of state_byte
state_again Live h = refl
state_again Closed h = refl
state_again Incompatible h = refl

pub state : IsPiece state_at (λ v. state_byte v ∷ []) (λ v. Unit {0})
state = coded (record { back = state_back; again = state_again })

reason_back : (b : ℕ) (v : PartState) → reason_of b ≡ Some v → (state_byte v ≡ b) × IsReason v
unfolding reason_of state_byte
reason_back b v e =
    elim (chosen b 1 (Some Closed) (cond (eqb b 2) (Some Incompatible) None) (Some v) e) [
      | inl h ↦ code_row state_byte IsReason b 1 Closed v h refl (inl refl)
      | inr e2 ↦ elim (chosen b 2 (Some Incompatible) None (Some v) e2) [
        | inl h ↦ code_row state_byte IsReason b 2 Incompatible v h refl (inr refl)
        | inr e9 ↦ absurd cc
      ]
    ]

reason_again : (v : PartState) → IsReason v → reason_of (state_byte v) ≡ Some v
unfolding reason_of state_byte
reason_again v (inl is) = rw is refl
reason_again v (inr is) = rw is refl

pub reason : IsPiece (coded_at reason_of) (λ v. state_byte v ∷ []) IsReason
reason = coded (record { back = reason_back; again = reason_again })

rise_back : (b : ℕ) (v : ℕ) → rise_of b ≡ Some v → (v ≡ b) × IsRise v
unfolding rise_of
rise_back b v e =
    elim (chosen b 1 (Some 1) (cond (eqb b 2) (Some 2) None) (Some v) e) [
      | inl h ↦ code_row (λ v. v) IsRise b 1 1 v h refl (inl refl)
      | inr e2 ↦ elim (chosen b 2 (Some 2) None (Some v) e2) [
        | inl h ↦ code_row (λ v. v) IsRise b 2 2 v h refl (inr refl)
        | inr e9 ↦ absurd cc
      ]
    ]

rise_again : (v : ℕ) → IsRise v → rise_of v ≡ Some v
unfolding rise_of
rise_again v (inl is) = rw is refl
rise_again v (inr is) = rw is refl

pub rise : IsPiece (coded_at rise_of) (λ v. v ∷ []) IsRise
rise = coded {byte_of = λ v. v} (record { back = rise_back; again = rise_again })

abbrev flag_pair : Bool × Bool → ℕ
flag_pair v = flags_byte v.0 v.1

flags_back : (b : ℕ) (v : Bool × Bool) → flags_of b ≡ Some v → (flag_pair v ≡ b) × Unit {0}
unfolding flags_of flags_byte
flags_back b v e =
    elim (chosen b 0 (Some (false, false)) (cond (eqb b 1) (Some (true, false)) (cond (eqb b 2) (Some (false, true)) (cond (eqb b 3) (Some (true, true)) None))) (Some v) e) [
      | inl h ↦ code_row flag_pair (λ v. Unit {0}) b 0 (false, false) v h refl tt
      | inr e1 ↦ elim (chosen b 1 (Some (true, false)) (cond (eqb b 2) (Some (false, true)) (cond (eqb b 3) (Some (true, true)) None)) (Some v) e1) [
        | inl h ↦ code_row flag_pair (λ v. Unit {0}) b 1 (true, false) v h refl tt
        | inr e2 ↦ elim (chosen b 2 (Some (false, true)) (cond (eqb b 3) (Some (true, true)) None) (Some v) e2) [
          | inl h ↦ code_row flag_pair (λ v. Unit {0}) b 2 (false, true) v h refl tt
          | inr e3 ↦ elim (chosen b 3 (Some (true, true)) None (Some v) e3) [
            | inl h ↦ code_row flag_pair (λ v. Unit {0}) b 3 (true, true) v h refl tt
            | inr e9 ↦ absurd cc
          ]
        ]
      ]
    ]

flags_again : (v : Bool × Bool) → Unit {0} → flags_of (flag_pair v) ≡ Some v
unfolding flags_of flags_byte
flags_again (false, false) h = refl
flags_again (true, false) h = refl
flags_again (false, true) h = refl
flags_again (true, true) h = refl

pub flags : IsPiece flags_at (λ v. flags_byte v.0 v.1 ∷ []) (λ v. Unit {0})
flags = coded {byte_of = flag_pair} (record { back = flags_back; again = flags_again })

-- ---- contents

behind_takes : (v : Bool) (all bytes : List ℕ) (x : Content × List ℕ) → Takes all (flag_byte v ∷ []) bytes → content_behind v bytes ≡ Ok x
    → Takes all (content_bytes x.0) x.1 × IsAllowedContent x.0
unfolding content_behind content_bytes flag_byte
behind_takes false all bytes x took e =
    subst (λ (y : Content × List ℕ). Takes all (content_bytes y.0) y.1 × IsAllowedContent y.0) (ok_is (None, bytes) x e) (took, tt)
behind_takes true all bytes x took e =
    let a = step counted_run bytes (λ run. Ok (Some run.0, run.1)) x took.rest_fits e in
    let both = then_takes took a.took in
    subst (λ (y : Content × List ℕ). Takes all (content_bytes y.0) y.1 × IsAllowedContent y.0) (ok_is (Some a.value, a.rest) x a.goes_on) (both, a.allowed)

content_takes : (bytes : List ℕ) (x : Content × List ℕ) → IsBytes bytes → content_at bytes ≡ Ok x → Takes bytes (content_bytes x.0) x.1 × IsAllowedContent x.0
unfolding content_at
content_takes bytes x fits e =
    let a = step flag bytes (λ flag. content_behind flag.0 flag.1) x fits e in
    behind_takes a.value bytes a.rest x a.took a.goes_on

content_again : (content : Content) (rest : List ℕ) → IsAllowedContent content → content_at (content_bytes content ++ rest) ≡ Ok (content, rest)
unfolding content_at content_bytes content_behind flag_byte
content_again None rest h = rw (flag.again false rest tt) refl
content_again (Some bytes) rest h = rw (flag.again true (run_bytes bytes ++ rest) tt, counted_run.again bytes rest h) refl

pub content : IsPiece content_at content_bytes IsAllowedContent
content = record { takes = content_takes; again = content_again }

-- ---- labels

label_takes : (bytes : List ℕ) (x : List ℕ × List ℕ) → IsBytes bytes → label_at bytes ≡ Ok x → Takes bytes (label_bytes x.0) x.1 × IsAllowedLabel x.0
unfolding label_at label_bytes
label_takes bytes x fits e =
    let a = step number16 bytes (λ len. where_allowed (leb len.0 1024) bytes len >>= λ short. run_at short.0 short.1 >>= λ text. where_allowed (is_utf8 text.0) short.1 text) x fits e in
    let g = guarded (leb a.value 1024) bytes (a.value, a.rest) (λ short. run_at short.0 short.1 >>= λ text. where_allowed (is_utf8 text.0) short.1 text) x a.goes_on in
    let b = step (run a.value) a.rest (λ text. where_allowed (is_utf8 text.0) a.rest text) x a.took.rest_fits g.1 in
    let h = allowed_ok (is_utf8 b.value) a.rest (b.value, b.rest) x b.goes_on in
    let both = then_takes a.took b.took in
    let took : Takes bytes (to_be_bytes w16 (length b.value) ++ b.value) b.rest = subst (λ (n : ℕ). Takes bytes (to_be_bytes w16 n ++ b.value) b.rest) (sym b.allowed) both in
    let short : length b.value ≤ 1024 = omega (arith, b.allowed, leb-true a.value 1024 g.0) in
    subst (λ (y : List ℕ × List ℕ). Takes bytes (label_bytes y.0) y.1 × IsAllowedLabel y.0) h.1 (took, record { short = short; text = IsUtf8-from_is_utf8 b.value h.0 })

label_again : (text rest : List ℕ) → IsAllowedLabel text → label_at (label_bytes text ++ rest) ≡ Ok (text, rest)
unfolding label_at label_bytes
label_again text rest h =
    let first = number16.again (length text) (text ++ rest) (omega (arith, h.short)) in
    let short : leb (length text) 1024 ≡ true = le-leb (length text) 1024 h.short in
    rw (first, short, (run (length text)).again text rest refl, is_utf8-from_IsUtf8 text h.text) refl

pub label : IsPiece label_at label_bytes IsAllowedLabel
label = record { takes = label_takes; again = label_again }

-- ---- bodies

emptied : (was is : Content) → (is_none was && is_none is) ≡ true → Whole was is ≡ no_contents
emptied None None e = refl
emptied None (Some b) e = absurd cc
emptied (Some a) is e = absurd cc

-- What a part in a state may hold.
pub may_hold_is : (state : PartState) (was is : Content) → may_hold state was is ≡ true → IsBodyOf state (Whole was is)
unfolding may_hold
may_hold_is Live was is e = (differs was is (is_same was is) refl).0 e
may_hold_is Closed was is e = emptied was is e
may_hold_is Incompatible was is e = emptied was is e

none_held : (was is : Content) → Whole was is ≡ no_contents → (is_none was && is_none is) ≡ true
none_held was is e = ap (λ (body : Body). is_none (old_content body) && is_none (new_content body)) e

pub is_may_hold : (state : PartState) (was is : Content) → IsBodyOf state (Whole was is) → may_hold state was is ≡ true
unfolding may_hold
is_may_hold Live was is h = (differs was is (is_same was is) refl).1 h
is_may_hold Closed was is h = none_held was is h
is_may_hold Incompatible was is h = none_held was is h

abbrev both_bytes : Content × Content → List ℕ
both_bytes v = content_bytes v.0 ++ content_bytes v.1

abbrev AreAllowedContents : Content × Content → Type 0
AreAllowedContents v = IsAllowedContent v.0 × IsAllowedContent v.1

contents_take : (bytes : List ℕ) (x : (Content × Content) × List ℕ) → IsBytes bytes → contents_at bytes ≡ Ok x → Takes bytes (both_bytes x.0) x.1 × AreAllowedContents x.0
unfolding contents_at
contents_take bytes x fits e =
    let a = step content bytes (λ was. content_at was.1 >>= λ is. Ok ((was.0, is.0), is.1)) x fits e in
    let b = step content a.rest (λ is. Ok ((a.value, is.0), is.1)) x a.took.rest_fits a.goes_on in
    let both = then_takes a.took b.took in
    subst (λ (y : (Content × Content) × List ℕ). Takes bytes (both_bytes y.0) y.1 × AreAllowedContents y.0) (ok_is ((a.value, b.value), b.rest) x b.goes_on) (both, (a.allowed, b.allowed))

contents_again : (v : Content × Content) (rest : List ℕ) → AreAllowedContents v → contents_at (both_bytes v ++ rest) ≡ Ok (v, rest)
unfolding contents_at
contents_again v rest h =
    let regrouped = append_assoc (content_bytes v.0) (content_bytes v.1) rest in
    ap contents_at regrouped ∙ rw (content.again v.0 (content_bytes v.1 ++ rest) h.0, content.again v.1 rest h.1) refl

contents : IsPiece contents_at both_bytes AreAllowedContents
contents = record { takes = contents_take; again = contents_again }

pub record IsAllowedBody (state : PartState) (body : Body) : Type 0 where
  pub rule : IsBodyOf state body
  pub old : IsAllowedContent (old_content body)
  pub new : IsAllowedContent (new_content body)

body_takes : (state : PartState) (bytes : List ℕ) (x : Body × List ℕ) → IsBytes bytes → body_at state bytes ≡ Ok x → Takes bytes (body_bytes x.0) x.1 × IsAllowedBody state x.0
unfolding body_at body_bytes
body_takes state bytes x fits e =
    let a = step byte bytes (λ form. where_allowed (eqb form.0 0) bytes form >>= λ known. contents_at known.1 >>= λ contents. where_allowed (may_hold state contents.0.0 contents.0.1) bytes (Whole contents.0.0 contents.0.1, contents.1)) x fits e in
    let g = guarded (eqb a.value 0) bytes (a.value, a.rest) (λ known. contents_at known.1 >>= λ contents. where_allowed (may_hold state contents.0.0 contents.0.1) bytes (Whole contents.0.0 contents.0.1, contents.1)) x a.goes_on in
    let b = step contents a.rest (λ contents. where_allowed (may_hold state contents.0.0 contents.0.1) bytes (Whole contents.0.0 contents.0.1, contents.1)) x a.took.rest_fits g.1 in
    let h = allowed_ok (may_hold state b.value.0 b.value.1) bytes (Whole b.value.0 b.value.1, b.rest) x b.goes_on in
    let both = then_takes a.took b.took in
    let took : Takes bytes (0 ∷ (content_bytes b.value.0 ++ content_bytes b.value.1)) b.rest
    = subst (λ (n : ℕ). Takes bytes (n ∷ (content_bytes b.value.0 ++ content_bytes b.value.1)) b.rest) (eqb-true a.value 0 g.0) both in
    subst (λ (y : Body × List ℕ). Takes bytes (body_bytes y.0) y.1 × IsAllowedBody state y.0) h.1 (took, record { rule = may_hold_is state b.value.0 b.value.1 h.0; old = b.allowed.0; new = b.allowed.1 })

body_again : (state : PartState) (body : Body) (rest : List ℕ) → IsAllowedBody state body → body_at state (body_bytes body ++ rest) ≡ Ok (body, rest)
unfolding body_at body_bytes
body_again state (Whole was is) rest h =
    let first = byte.again 0 ((content_bytes was ++ content_bytes is) ++ rest) tt in
    rw (first, contents.again (was, is) rest (h.old, h.new), is_may_hold state was is h.rule) refl

pub body : (state : PartState) → IsPiece (body_at state) body_bytes (IsAllowedBody state)
body state = record { takes = body_takes state; again = body_again state }
