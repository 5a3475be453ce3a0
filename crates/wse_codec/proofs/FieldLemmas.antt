-- Fields: what is read of one is spelled so, and what is spelled so is read.
use Rattle.std.proofs.Common.{◌≡◌, ℕ, suc, ◌+◌, ◌^◌, ◌<◌, ◌≤◌, ◌⊎◌, Bool, true, false, cond, eqb, ltb, List, [], ◌∷◌, ◌++◌, length, get_or, take, drop, Option, Some, None, Result, Ok, Err, refl, sym, ap, subst, ◌∙◌, append_assoc, arith, inl, inr}
use Rattle.std.specs.Int.{Width, w16, w32, w64, byte_len, from_be_bytes, to_be_bytes}
use Rattle.std.proofs.lemmas.Bool.{cases_lt, ltb-false, le-ltb, eqb-true, ltb-true, lt-ltb}
use Rattle.std.proofs.lemmas.List.{take_at, drop_at, take-append-drop, length-append, length-take, get_or-drop, get_or-take, get_or_past, nil_from_length}
use Rattle.std.proofs.lemmas.Nat.{be_bytes_2, be_bytes_4, be_bytes_8, from_be_bytes-to_be_bytes_2, from_be_bytes-to_be_bytes_4, from_be_bytes-to_be_bytes_8}
use Rattle.wse_codec.specs.Pieces.{Read, ◌>>=◌, where_allowed, byte_at, number_at, run_at, meaning, coded_at, count_at, whole}

abbrev pub IsBytes : List ℕ → Type 0
IsBytes bytes = (i : ℕ) → get_or bytes i 0 < 256

IsBytes-drop : (n : ℕ) (bytes : List ℕ) → IsBytes bytes → IsBytes (drop n bytes)
IsBytes-drop n bytes h i = rw get_or-drop (h (n + i))

IsBytes-take : (n : ℕ) (bytes : List ℕ) → IsBytes bytes → IsBytes (take n bytes)
IsBytes-take n bytes h i =
    elim (cases_lt i n) [
      | inl lt ↦ rw (get_or-take n bytes i 0 lt) (h i)
      | inr le ↦ rw (get_or_past (take n bytes) i 0 (omega (arith, length-take n bytes))) (omega arith)
    ]

IsBytes-rest : (b : ℕ) (bytes : List ℕ) → IsBytes (b ∷ bytes) → IsBytes bytes
IsBytes-rest b bytes h i = h (suc i)

-- ---- steps of a reading

abbrev done : {A : Type 0} → A → Result A ℕ
done x = Ok x

pub ok_is : {A : Type 0} (x y : A) → done x ≡ done y → x ≡ y
ok_is x y e = cc

-- the value of a step that did not fail
pub bind_ok : {A B : Type 0} (r : Result A ℕ) (f : A → Result B ℕ) (y : B) → (r >>= f) ≡ Ok y → (x : A) × (r ≡ Ok x) × (f x ≡ Ok y)
bind_ok (Ok x) f y e = (x, refl, e)
bind_ok (Err d) f y e = absurd cc

-- a rule that held at the end
pub allowed_ok : {A : Type 0} (b : Bool) (field : List ℕ) (x y : A) → where_allowed b field x ≡ Ok y → (b ≡ true) × (x ≡ y)
allowed_ok true field x y e = (refl, cc)
allowed_ok false field x y e = absurd cc

-- a rule that held on the way
pub guarded : {A B : Type 0} (b : Bool) (field : List ℕ) (v : A) (k : A → Result B ℕ) (y : B) → (where_allowed b field v >>= k) ≡ Ok y → (b ≡ true) × (k v ≡ Ok y)
guarded true field v k y e = (refl, e)
guarded false field v k y e = absurd cc

-- what a choice by a number gave
pub chosen : {A : Type 0} (k n : ℕ) (a b c : A) → cond (eqb k n) a b ≡ c → ((k ≡ n) × (a ≡ c)) ⊎ (b ≡ c)
chosen {A = A} k n a b c e = by (eqb k n) refl e
  where
    by : (t : Bool) → eqb k n ≡ t → cond t a b ≡ c → ((k ≡ n) × (a ≡ c)) ⊎ (b ≡ c)
    by true is e = inl (eqb-true k n is, e)
    by false is e = inr e

-- what a reading took from the front
pub record Takes (bytes text rest : List ℕ) : Type 0 where
  pub parts : bytes ≡ text ++ rest
  pub rest_fits : IsBytes rest

pub then_takes : {a x b y c : List ℕ} → Takes a x b → Takes b y c → Takes a (x ++ y) c
then_takes {a = a} {x = x} {b = b} {y = y} {c = c} p q =
    record { parts = p.parts ∙ ap (λ (t : List ℕ). x ++ t) q.parts ∙ sym (append_assoc x y c); rest_fits = q.rest_fits }

pub takes_nothing : (bytes : List ℕ) → IsBytes bytes → Takes bytes [] bytes
takes_nothing bytes fits = record { parts = refl; rest_fits = fits }

-- the two laws of a piece
pub record IsPiece {V : Type 0} (read : List ℕ → Read V) (spelling : V → List ℕ) (IsAllowed : V → Type 0) : Type 0 where
  pub takes : (bytes : List ℕ) (x : V × List ℕ) → IsBytes bytes → read bytes ≡ Ok x → Takes bytes (spelling x.0) x.1 × IsAllowed x.0
  pub again : (v : V) (rest : List ℕ) → IsAllowed v → read (spelling v ++ rest) ≡ Ok (v, rest)

-- a piece that was read, and what goes on behind it
pub record Step {A B : Type 0} (spelling : A → List ℕ) (IsAllowed : A → Type 0) (bytes : List ℕ) (k : A × List ℕ → Result B ℕ) (y : B) : Type 0 where
  pub value : A
  pub rest : List ℕ
  pub took : Takes bytes (spelling value) rest
  pub allowed : IsAllowed value
  pub goes_on : k (value, rest) ≡ Ok y

pub step : {A B : Type 0} {read : List ℕ → Read A} {spelling : A → List ℕ} {IsAllowed : A → Type 0}
    → IsPiece read spelling IsAllowed → (bytes : List ℕ) (k : A × List ℕ → Result B ℕ) (y : B)
    → IsBytes bytes → (read bytes >>= k) ≡ Ok y → Step spelling IsAllowed bytes k y
step {read = read} piece bytes k y fits e =
    let b = bind_ok (read bytes) k y e in
    let t = piece.takes bytes b.0 fits b.1 in
    record { value = b.0.0; rest = b.0.1; took = t.0; allowed = t.1; goes_on = b.2 }

-- the same piece with its rule in other words
pub ruled : {V : Type 0} {read : List ℕ → Read V} {spelling : V → List ℕ} {P : V → Type 0} (Q : V → Type 0)
    → IsPiece read spelling P → ((v : V) → P v → Q v) → ((v : V) → Q v → P v) → IsPiece read spelling Q
ruled Q piece to from = record {
  takes = λ bytes x fits e. let t = piece.takes bytes x fits e in (t.0, to x.0 t.1);
  again = λ v rest h. piece.again v rest (from v h);
}

-- ---- numbers

record IsWide (w : Width) (limit : ℕ) : Type 0 where
  len : (n : ℕ) → length (to_be_bytes w n) ≡ byte_len w
  back : (bytes : List ℕ) → length bytes ≡ byte_len w → IsBytes bytes → to_be_bytes w (from_be_bytes w bytes) ≡ bytes
  again : (n : ℕ) → n < limit → from_be_bytes w (to_be_bytes w n) ≡ n
  below : (bytes : List ℕ) → IsBytes bytes → from_be_bytes w bytes < limit

wide16 : IsWide w16 (2 ^ 16)
wide16 = record {
  len = λ n. refl;
  back = λ bytes len fits. be_bytes_2 bytes _ len fits refl;
  again = λ n lt. from_be_bytes-to_be_bytes_2 n lt;
  below = λ bytes fits. omega (arith, fits 0, fits 1);
}

wide32 : IsWide w32 (2 ^ 32)
wide32 = record {
  len = λ n. refl;
  back = λ bytes len fits. be_bytes_4 bytes _ len fits refl;
  again = λ n lt. from_be_bytes-to_be_bytes_4 n lt;
  below = λ bytes fits. omega (arith, fits 0, fits 1, fits 2, fits 3);
}

wide64 : IsWide w64 (2 ^ 64)
wide64 = record {
  len = λ n. refl;
  back = λ bytes len fits. be_bytes_8 bytes _ len fits refl;
  again = λ n lt. from_be_bytes-to_be_bytes_8 n lt;
  below = λ bytes fits. omega (arith, fits 0, fits 1, fits 2, fits 3, fits 4, fits 5, fits 6, fits 7);
}

-- a number of bytes that were long enough
long_ok : {A : Type 0} (b : Bool) (field : List ℕ) (x y : A) → cond b (Err (length field)) (Ok x) ≡ Ok y → (b ≡ false) × (x ≡ y)
long_ok true field x y e = absurd cc
long_ok false field x y e = (refl, cc)

number_takes : (w : Width) (limit : ℕ) (wide : IsWide w limit) (bytes : List ℕ) (x : ℕ × List ℕ) → IsBytes bytes → number_at w bytes ≡ Ok x → Takes bytes (to_be_bytes w x.0) x.1 × (x.0 < limit)
unfolding number_at
number_takes w limit wide bytes x fits e =
    let front : List ℕ = take (byte_len w) bytes in
    let g = long_ok (ltb (length bytes) (byte_len w)) bytes (from_be_bytes w front, drop (byte_len w) bytes) x e in
    let long : byte_len w ≤ length bytes = ltb-false _ _ g.0 in
    let back : to_be_bytes w (from_be_bytes w front) ≡ front = wide.back front (omega (arith, length-take (byte_len w) bytes)) (IsBytes-take (byte_len w) bytes fits) in
    let took : Takes bytes (to_be_bytes w (from_be_bytes w front)) (drop (byte_len w) bytes)
    = record { parts = rw back (sym (take-append-drop (byte_len w) bytes)); rest_fits = IsBytes-drop (byte_len w) bytes fits } in
    subst (λ (y : ℕ × List ℕ). Takes bytes (to_be_bytes w y.0) y.1 × (y.0 < limit)) g.1 (took, wide.below front (IsBytes-take (byte_len w) bytes fits))

number_again : (w : Width) (limit : ℕ) (wide : IsWide w limit) (n : ℕ) (rest : List ℕ) → n < limit → number_at w (to_be_bytes w n ++ rest) ≡ Ok (n, rest)
unfolding number_at
number_again w limit wide n rest lt =
    let len = wide.len n in
    let long : ltb (length (to_be_bytes w n ++ rest)) (byte_len w) ≡ false = le-ltb _ _ (omega (arith, length-append (to_be_bytes w n) rest)) in
    rw (long, take_at (to_be_bytes w n) rest (byte_len w) len, drop_at (to_be_bytes w n) rest (byte_len w) len, wide.again n lt) refl

pub number16 : IsPiece (number_at w16) (to_be_bytes w16) (λ n. n < 2 ^ 16)
number16 = record { takes = number_takes w16 (2 ^ 16) wide16; again = number_again w16 (2 ^ 16) wide16 }

pub number32 : IsPiece (number_at w32) (to_be_bytes w32) (λ n. n < 2 ^ 32)
number32 = record { takes = number_takes w32 (2 ^ 32) wide32; again = number_again w32 (2 ^ 32) wide32 }

pub number64 : IsPiece (number_at w64) (to_be_bytes w64) (λ n. n < 2 ^ 64)
number64 = record { takes = number_takes w64 (2 ^ 64) wide64; again = number_again w64 (2 ^ 64) wide64 }

-- ---- a byte, bytes, a byte that stands for something

byte_takes : (bytes : List ℕ) (x : ℕ × List ℕ) → IsBytes bytes → byte_at bytes ≡ Ok x → Takes bytes (x.0 ∷ []) x.1 × Unit {0}
unfolding byte_at
byte_takes [] x fits e = absurd cc
byte_takes (b ∷ bytes) x fits e =
    subst (λ (y : ℕ × List ℕ). Takes (b ∷ bytes) (y.0 ∷ []) y.1 × Unit {0}) (ok_is (b, bytes) x e) (record { parts = refl; rest_fits = IsBytes-rest b bytes fits }, tt)

byte_again : (b : ℕ) (rest : List ℕ) → Unit {0} → byte_at ((b ∷ []) ++ rest) ≡ Ok (b, rest)
unfolding byte_at
byte_again b rest h = refl

pub byte : IsPiece byte_at (λ b. b ∷ []) (λ b. Unit {0})
byte = record { takes = byte_takes; again = byte_again }

run_takes : (n : ℕ) (bytes : List ℕ) (x : List ℕ × List ℕ) → IsBytes bytes → run_at n bytes ≡ Ok x → Takes bytes x.0 x.1 × (length x.0 ≡ n)
unfolding run_at
run_takes n bytes x fits e =
    let g = long_ok (ltb (length bytes) n) bytes (take n bytes, drop n bytes) x e in
    let long : n ≤ length bytes = ltb-false _ _ g.0 in
    let len : length (take n bytes) ≡ n = omega (arith, length-take n bytes) in
    let took : Takes bytes (take n bytes) (drop n bytes) = record { parts = sym (take-append-drop n bytes); rest_fits = IsBytes-drop n bytes fits } in
    subst (λ (y : List ℕ × List ℕ). Takes bytes y.0 y.1 × (length y.0 ≡ n)) g.1 (took, len)

run_again : (n : ℕ) (text rest : List ℕ) → length text ≡ n → run_at n (text ++ rest) ≡ Ok (text, rest)
unfolding run_at
run_again n text rest len =
    let long : ltb (length (text ++ rest)) n ≡ false = le-ltb _ _ (omega (arith, length-append text rest)) in
    rw (long, take_at text rest n len, drop_at text rest n len) refl

pub run : (n : ℕ) → IsPiece (run_at n) (λ text. text) (λ text. length text ≡ n)
run n = record { takes = run_takes n; again = run_again n }

-- a byte for each value
pub record IsCode {V : Type 0} (value_of : ℕ → Option V) (byte_of : V → ℕ) (IsAllowed : V → Type 0) : Type 0 where
  pub back : (b : ℕ) (v : V) → value_of b ≡ Some v → (byte_of v ≡ b) × IsAllowed v
  pub again : (v : V) → IsAllowed v → value_of (byte_of v) ≡ Some v

meaning_ok : {V : Type 0} (o : Option V) (field rest : List ℕ) (x : V × List ℕ) → meaning o field rest ≡ Ok x → (o ≡ Some x.0) × (rest ≡ x.1)
meaning_ok None field rest x e = absurd cc
meaning_ok (Some v) field rest x e =
    let is = ok_is (v, rest) x e in
    (ap (λ (p : _ × List ℕ). Some p.0) is, ap (λ (p : _ × List ℕ). p.1) is)

taken_byte : (bytes : List ℕ) (b c : ℕ) (rest last : List ℕ) → b ≡ c → rest ≡ last → Takes bytes (b ∷ []) rest → Takes bytes (c ∷ []) last
taken_byte bytes b c rest last is same took = subst (λ (r : List ℕ). Takes bytes (c ∷ []) r) same (subst (λ (n : ℕ). Takes bytes (n ∷ []) rest) is took)

pub coded : {V : Type 0} {value_of : ℕ → Option V} {byte_of : V → ℕ} {IsAllowed : V → Type 0} → IsCode value_of byte_of IsAllowed → IsPiece (coded_at value_of) (λ v. byte_of v ∷ []) IsAllowed
unfolding coded_at byte_at
coded {value_of = value_of} {byte_of = byte_of} {IsAllowed = IsAllowed} code = record { takes = takes; again = again }
  where
    takes : (bytes : List ℕ) (x : _ × List ℕ) → IsBytes bytes → coded_at value_of bytes ≡ Ok x → Takes bytes (byte_of x.0 ∷ []) x.1 × IsAllowed x.0
    takes bytes x fits e =
        let a = step byte bytes (λ b. meaning (value_of b.0) bytes b.1) x fits e in
        let m = meaning_ok (value_of a.value) bytes a.rest x a.goes_on in
        let c = code.back a.value x.0 m.0 in
        let took : Takes bytes (byte_of x.0 ∷ []) x.1 = taken_byte bytes a.value (byte_of x.0) a.rest x.1 (sym c.0) m.1 a.took in
        (took, c.1)

    again : (v : _) (rest : List ℕ) → IsAllowed v → coded_at value_of (byte_of v ∷ rest) ≡ Ok (v, rest)
    again v rest h = rw (code.again v h) refl

-- one row of a table of bytes
pub code_row : {V : Type 0} (byte_of : V → ℕ) (P : V → Type 0) (b n : ℕ) (v w : V) → (b ≡ n) × (Some v ≡ Some w) → byte_of v ≡ n → P v → (byte_of w ≡ b) × P w
code_row byte_of P b n v w is at allowed =
    let same : v ≡ w = cc is.1 in
    subst (λ (u : _). (byte_of u ≡ b) × P u) same (at ∙ sym is.0, allowed)

-- ---- a count that isn't 0, and an end

count_takes : (bytes : List ℕ) (x : ℕ × List ℕ) → IsBytes bytes → count_at bytes ≡ Ok x → Takes bytes (to_be_bytes w32 x.0) x.1 × (0 < x.0) × (x.0 < 2 ^ 32)
unfolding count_at
count_takes bytes x fits e =
    let a = step number32 bytes _ x fits e in
    let g = allowed_ok (ltb 0 a.value) bytes (a.value, a.rest) x a.goes_on in
    subst (λ (y : ℕ × List ℕ). Takes bytes (to_be_bytes w32 y.0) y.1 × (0 < y.0) × (y.0 < 2 ^ 32)) g.1 (a.took, ltb-true 0 a.value g.0, a.allowed)

count_again : (n : ℕ) (rest : List ℕ) → (0 < n) × (n < 2 ^ 32) → count_at (to_be_bytes w32 n ++ rest) ≡ Ok (n, rest)
unfolding count_at
count_again n rest h = rw (number32.again n rest h.1, lt-ltb 0 n h.0) refl

pub count : IsPiece count_at (to_be_bytes w32) (λ n. (0 < n) × (n < 2 ^ 32))
count = record { takes = λ bytes x fits e. let t = count_takes bytes x fits e in (t.0, (t.1, t.2)); again = count_again }

pub whole_ok : {V : Type 0} (v w : V) (rest : List ℕ) → whole (v, rest) ≡ Ok w → (rest ≡ []) × (v ≡ w)
whole_ok v w rest e =
    let g = allowed_ok (eqb (length rest) 0) rest v w e in
    (nil_from_length rest (eqb-true _ _ g.0), g.1)
