-- Effects: what is read of one is spelled so, and what is spelled so is read.
use Rattle.std.proofs.Common.{◌≡◌, ℕ, ◌^◌, ◌<◌, List, [], ◌∷◌, ◌++◌, Ok, refl, ap, subst, ◌∙◌, append_assoc, inl, inr}
use Rattle.std.specs.Int.{w64, to_be_bytes}
use Rattle.wse_path.specs.Path.{Path}
use Rattle.wse_element.specs.declared.state.PartState.{PartState}
use Rattle.wse_element.specs.declared.effect.Effect.{Effect}
use Rattle.wse_element.specs.declared.effect.Effect.TheVariants.{Push, MoveBack, MoveForward, Split, Drop, Invalidate, Bump, Set}
use Rattle.wse_element.specs.Content.{Content}
use Rattle.wse_element.specs.Record.{Record}
use Rattle.wse_codec.specs.Spelling.{path_bytes, content_bytes, state_byte, element_bytes, effect_bytes}
use Rattle.wse_codec.specs.Allowed.{IsAllowedElement, IsAllowedPath, IsAllowedContent, IsAllowedEffect, IsReason, IsRise}
use Rattle.wse_codec.specs.Pieces.{◌>>=◌, byte_at, number_at, coded_at}
use Rattle.wse_codec.specs.Reading.{content_at, push_at, move_back_at, move_forward_at, split_at, reason_of, drop_at, invalidate_at, rise_of, bump_at, set_at, effect_of_kind, effect_at}
use Rattle.wse_codec.proofs.FieldLemmas.{IsBytes, IsPiece, Takes, then_takes, step, ok_is, chosen, byte, number64}
use Rattle.wse_codec.proofs.PathLemmas.{any_path}
use Rattle.wse_codec.proofs.ContentLemmas.{content, reason, rise}
use Rattle.wse_codec.proofs.PartLemmas.{element}

-- The bytes spell an allowed effect, and the last ones are behind it.
abbrev IsEffect : List ℕ → Effect × List ℕ → Type 0
IsEffect all x = Takes all (effect_bytes x.0) x.1 × IsAllowedEffect x.0

-- ---- each kind, behind the byte that names it

push_takes : (all bytes : List ℕ) (x : Effect × List ℕ) → Takes all (1 ∷ []) bytes → push_at bytes ≡ Ok x → IsEffect all x
unfolding push_at effect_bytes
push_takes all bytes x kind e =
    let a = step element bytes (λ element. Ok (Push element.0, element.1)) x kind.rest_fits e in
    subst (λ (y : Effect × List ℕ). IsEffect all y) (ok_is (Push a.value, a.rest) x a.goes_on) (then_takes kind a.took, a.allowed)

move_back_takes : (all bytes : List ℕ) (x : Effect × List ℕ) → Takes all (2 ∷ []) bytes → move_back_at bytes ≡ Ok x → IsEffect all x
unfolding move_back_at effect_bytes
move_back_takes all bytes x kind e =
    let a = step number64 bytes (λ id. Ok (MoveBack id.0, id.1)) x kind.rest_fits e in
    subst (λ (y : Effect × List ℕ). IsEffect all y) (ok_is (MoveBack a.value, a.rest) x a.goes_on) (then_takes kind a.took, a.allowed)

move_forward_takes : (all bytes : List ℕ) (x : Effect × List ℕ) → Takes all (3 ∷ []) bytes → move_forward_at bytes ≡ Ok x → IsEffect all x
unfolding move_forward_at effect_bytes
move_forward_takes all bytes x kind e =
    let a = step number64 bytes (λ id. Ok (MoveForward id.0, id.1)) x kind.rest_fits e in
    subst (λ (y : Effect × List ℕ). IsEffect all y) (ok_is (MoveForward a.value, a.rest) x a.goes_on) (then_takes kind a.took, a.allowed)

split_takes : (all bytes : List ℕ) (x : Effect × List ℕ) → Takes all (4 ∷ []) bytes → split_at bytes ≡ Ok x → IsEffect all x
unfolding split_at effect_bytes
split_takes all bytes x kind e =
    let a = step number64 bytes (λ id. number_at w64 id.1 >>= λ first. Ok (Split id.0 first.0, first.1)) x kind.rest_fits e in
    let b = step number64 a.rest (λ first. Ok (Split a.value first.0, first.1)) x a.took.rest_fits a.goes_on in
    subst (λ (y : Effect × List ℕ). IsEffect all y) (ok_is (Split a.value b.value, b.rest) x b.goes_on) (then_takes kind (then_takes a.took b.took), (a.allowed, b.allowed))

drop_takes : (all bytes : List ℕ) (x : Effect × List ℕ) → Takes all (5 ∷ []) bytes → drop_at bytes ≡ Ok x → IsEffect all x
unfolding drop_at effect_bytes
drop_takes all bytes x kind e =
    let a = step any_path bytes (λ path. coded_at reason_of path.1 >>= λ reason. Ok (Drop path.0 reason.0, reason.1)) x kind.rest_fits e in
    let b = step reason a.rest (λ reason. Ok (Drop a.value reason.0, reason.1)) x a.took.rest_fits a.goes_on in
    subst (λ (y : Effect × List ℕ). IsEffect all y) (ok_is (Drop a.value b.value, b.rest) x b.goes_on) (then_takes kind (then_takes a.took b.took), (a.allowed, b.allowed))

invalidate_takes : (all bytes : List ℕ) (x : Effect × List ℕ) → Takes all (6 ∷ []) bytes → invalidate_at bytes ≡ Ok x → IsEffect all x
unfolding invalidate_at effect_bytes
invalidate_takes all bytes x kind e =
    let a = step any_path bytes (λ path. Ok (Invalidate path.0, path.1)) x kind.rest_fits e in
    subst (λ (y : Effect × List ℕ). IsEffect all y) (ok_is (Invalidate a.value, a.rest) x a.goes_on) (then_takes kind a.took, a.allowed)

bump_takes : (all bytes : List ℕ) (x : Effect × List ℕ) → Takes all (7 ∷ []) bytes → bump_at bytes ≡ Ok x → IsEffect all x
unfolding bump_at effect_bytes
bump_takes all bytes x kind e =
    let a = step any_path bytes (λ path. coded_at rise_of path.1 >>= λ by. Ok (Bump path.0 by.0, by.1)) x kind.rest_fits e in
    let b = step rise a.rest (λ by. Ok (Bump a.value by.0, by.1)) x a.took.rest_fits a.goes_on in
    subst (λ (y : Effect × List ℕ). IsEffect all y) (ok_is (Bump a.value b.value, b.rest) x b.goes_on) (then_takes kind (then_takes a.took b.took), (a.allowed, b.allowed))

set_takes : (all bytes : List ℕ) (x : Effect × List ℕ) → Takes all (8 ∷ []) bytes → set_at bytes ≡ Ok x → IsEffect all x
unfolding set_at effect_bytes
set_takes all bytes x kind e =
    let a = step any_path bytes (λ path. content_at path.1 >>= λ content. Ok (Set path.0 content.0, content.1)) x kind.rest_fits e in
    let b = step content a.rest (λ content. Ok (Set a.value content.0, content.1)) x a.took.rest_fits a.goes_on in
    subst (λ (y : Effect × List ℕ). IsEffect all y) (ok_is (Set a.value b.value, b.rest) x b.goes_on) (then_takes kind (then_takes a.took b.took), (a.allowed, b.allowed))

-- ---- any kind

kind_is : (all rest : List ℕ) (kind n : ℕ) → kind ≡ n → Takes all (kind ∷ []) rest → Takes all (n ∷ []) rest
kind_is all rest kind n is took = subst (λ (k : ℕ). Takes all (k ∷ []) rest) is took

kind_takes : (all rest : List ℕ) (kind : ℕ) (x : Effect × List ℕ) → Takes all (kind ∷ []) rest → effect_of_kind kind all rest ≡ Ok x → IsEffect all x
unfolding effect_of_kind
kind_takes all rest kind x took e =
    elim (chosen kind 1 _ _ (Ok x) e) [
      | inl h ↦ push_takes all rest x (kind_is all rest kind 1 h.0 took) h.1
      | inr e1 ↦ elim (chosen kind 2 _ _ (Ok x) e1) [
        | inl h ↦ move_back_takes all rest x (kind_is all rest kind 2 h.0 took) h.1
        | inr e2 ↦ elim (chosen kind 3 _ _ (Ok x) e2) [
          | inl h ↦ move_forward_takes all rest x (kind_is all rest kind 3 h.0 took) h.1
          | inr e3 ↦ elim (chosen kind 4 _ _ (Ok x) e3) [
            | inl h ↦ split_takes all rest x (kind_is all rest kind 4 h.0 took) h.1
            | inr e4 ↦ elim (chosen kind 5 _ _ (Ok x) e4) [
              | inl h ↦ drop_takes all rest x (kind_is all rest kind 5 h.0 took) h.1
              | inr e5 ↦ elim (chosen kind 6 _ _ (Ok x) e5) [
                | inl h ↦ invalidate_takes all rest x (kind_is all rest kind 6 h.0 took) h.1
                | inr e6 ↦ elim (chosen kind 7 _ _ (Ok x) e6) [
                  | inl h ↦ bump_takes all rest x (kind_is all rest kind 7 h.0 took) h.1
                  | inr e7 ↦ elim (chosen kind 8 _ _ (Ok x) e7) [
                    | inl h ↦ set_takes all rest x (kind_is all rest kind 8 h.0 took) h.1
                    | inr e9 ↦ absurd cc
                  ]
                ]
              ]
            ]
          ]
        ]
      ]
    ]

effect_takes : (bytes : List ℕ) (x : Effect × List ℕ) → IsBytes bytes → effect_at bytes ≡ Ok x → IsEffect bytes x
unfolding effect_at
effect_takes bytes x fits e =
    let a = step byte bytes (λ kind. effect_of_kind kind.0 bytes kind.1) x fits e in
    kind_takes bytes a.rest a.value x a.took a.goes_on

-- ---- what is spelled is read

push_again : (r : Record) (rest : List ℕ) → IsAllowedElement r → push_at (element_bytes r ++ rest) ≡ Ok (Push r, rest)
unfolding push_at
push_again r rest h = rw (element.again r rest h) refl

move_back_again : (id : ℕ) (rest : List ℕ) → id < 2 ^ 64 → move_back_at (to_be_bytes w64 id ++ rest) ≡ Ok (MoveBack id, rest)
unfolding move_back_at
move_back_again id rest h = rw (number64.again id rest h) refl

move_forward_again : (id : ℕ) (rest : List ℕ) → id < 2 ^ 64 → move_forward_at (to_be_bytes w64 id ++ rest) ≡ Ok (MoveForward id, rest)
unfolding move_forward_at
move_forward_again id rest h = rw (number64.again id rest h) refl

split_again : (id first : ℕ) (rest : List ℕ) → (id < 2 ^ 64) × (first < 2 ^ 64) → split_at (to_be_bytes w64 id ++ (to_be_bytes w64 first ++ rest)) ≡ Ok (Split id first, rest)
unfolding split_at
split_again id first rest h = rw (number64.again id (to_be_bytes w64 first ++ rest) h.0, number64.again first rest h.1) refl

drop_again : (path : Path) (state : PartState) (rest : List ℕ) → IsAllowedPath path × IsReason state → drop_at ((path_bytes path ++ (state_byte state ∷ [])) ++ rest) ≡ Ok (Drop path state, rest)
unfolding drop_at
drop_again path state rest h =
    ap drop_at (append_assoc (path_bytes path) (state_byte state ∷ []) rest) ∙ rw (any_path.again path (state_byte state ∷ rest) h.0, reason.again state rest h.1) refl

invalidate_again : (path : Path) (rest : List ℕ) → IsAllowedPath path → invalidate_at (path_bytes path ++ rest) ≡ Ok (Invalidate path, rest)
unfolding invalidate_at
invalidate_again path rest h = rw (any_path.again path rest h) refl

bump_again : (path : Path) (by : ℕ) (rest : List ℕ) → IsAllowedPath path × IsRise by → bump_at ((path_bytes path ++ (by ∷ [])) ++ rest) ≡ Ok (Bump path by, rest)
unfolding bump_at
bump_again path by rest h =
    ap bump_at (append_assoc (path_bytes path) (by ∷ []) rest) ∙ rw (any_path.again path (by ∷ rest) h.0, rise.again by rest h.1) refl

set_again : (path : Path) (c : Content) (rest : List ℕ) → IsAllowedPath path × IsAllowedContent c → set_at ((path_bytes path ++ content_bytes c) ++ rest) ≡ Ok (Set path c, rest)
unfolding set_at
set_again path c rest h =
    ap set_at (append_assoc (path_bytes path) (content_bytes c) rest) ∙ rw (any_path.again path (content_bytes c ++ rest) h.0, content.again c rest h.1) refl

effect_again : (effect : Effect) (rest : List ℕ) → IsAllowedEffect effect → effect_at (effect_bytes effect ++ rest) ≡ Ok (effect, rest)
unfolding effect_at byte_at effect_of_kind effect_bytes
effect_again (Push r) rest h = push_again r rest h
effect_again (MoveBack id) rest h = move_back_again id rest h
effect_again (MoveForward id) rest h = move_forward_again id rest h
effect_again (Split id first) rest h = split_again id first rest h
effect_again (Drop path state) rest h = drop_again path state rest h
effect_again (Invalidate path) rest h = invalidate_again path rest h
effect_again (Bump path by) rest h = bump_again path by rest h
effect_again (Set path c) rest h = set_again path c rest h

pub effect : IsPiece effect_at effect_bytes IsAllowedEffect
effect = record { takes = effect_takes; again = effect_again }
