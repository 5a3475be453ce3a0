-- What changes make of the size of a tree, and of the first large file in it.
use Rattle.std.proofs.Common.{◌≡◌, ℕ, suc, ◌+◌, ◌-◌, ◌^◌, ◌<◌, ◌≤◌, get_or, take, true, false, cond, List, [], ◌∷◌, ◌++◌, map, length, Option, Some, None, refl, sym, ap, ◌∙◌, arith}
use Rattle.std.specs.Prelude.{flat_map, sum_by, nat_lt, find as find_item}
use Rattle.std.specs.Option.{option_to_list, option_or}
use Rattle.std.specs.FinMap.{is_sorted}
use Rattle.std.proofs.lemmas.Bool.{or_left, or_right}
use Rattle.std.proofs.lemmas.List.Sums.{sum_by-cons, sum_by_more}
use Rattle.wse_path.specs.Path.{Path}
use Rattle.wse_path.specs.Order.{path_cmp}
use Rattle.wse_path.specs.PathMap.{capped}
use Rattle.wse_path.specs.Tree.{Entries, content, put_all}
use Rattle.wse_path.specs.Changes.{is_same, change_at, changes_between}
use Rattle.wse_path.specs.declared.change.Change.{Change}
use Rattle.wse_path.proofs.PutLemmas.{put_all_is, sorted_put_each, has_put_all}
use Rattle.wse_path.proofs.ChangeLemmas.{same_content}
use Rattle.wse_path.proofs.GatheredLemmas.{over_paths}
use Rattle.wse_apply.specs.Limit.{first_above}
use Rattle.wse_apply.specs.Sizes.{files_of, bytes_of, content_size, plus, size_before, size_after, bytes_above, first_after_above}
use Rattle.wse_apply.proofs.AlongLemmas.{contents, contents_at, along}

-- ---- along paths

-- what the contents at the paths weigh
abbrev tally : (Option (List ℕ) → ℕ) → Entries → Entries → ℕ
tally w files vs = sum_by (λ v. w (content files v.0)) vs

abbrev changes_at : Entries → Entries → Entries → List Change
changes_at old new vs = flat_map (λ v. change_at old new v.0) vs

abbrev before_by : (Option (List ℕ) → ℕ) → List Change → ℕ
before_by w changes = sum_by (λ c. w c.before) changes

abbrev after_by : (Option (List ℕ) → ℕ) → List Change → ℕ
after_by w changes = sum_by (λ c. w c.after) changes

length_along : (files vs : Entries) → length (contents_at files vs) ≡ tally files_of files vs
length_along files [] = refl
length_along files (v ∷ vs) =
    let more = length_along files vs in
    let sums = sum_by-cons (λ (v : Path × List ℕ). files_of (content files v.0)) v vs in
    elim (content files v.0) as (λ o. length (option_to_list o ++ contents_at files vs) ≡ files_of o + tally files_of files vs) [
      | None ↦ omega arith
      | Some b ↦ omega arith
    ] ∙ sym sums

bytes_along : (files vs : Entries) → sum_by length (contents_at files vs) ≡ tally bytes_of files vs
bytes_along files [] = refl
bytes_along files (v ∷ vs) =
    let more = bytes_along files vs in
    let sums = sum_by-cons (λ (v : Path × List ℕ). bytes_of (content files v.0)) v vs in
    elim (content files v.0) as (λ o. sum_by length (option_to_list o ++ contents_at files vs) ≡ bytes_of o + tally bytes_of files vs) [
      | None ↦ omega arith
      | Some b ↦ sum_by-cons (λ (b : List ℕ). length b) b (contents_at files vs) ∙ ap (λ n. length b + n) more
    ] ∙ sym sums

pub record Accounts (new old gone come : ℕ) : Type 0 where
  pub balance : new + gone ≡ old + come
  pub within : gone ≤ old

balanced : (w : Option (List ℕ) → ℕ) (old new vs : Entries) → Accounts (tally w new vs) (tally w old vs) (before_by w (changes_at old new vs)) (after_by w (changes_at old new vs))
balanced w old new [] = record { balance = refl; within = omega arith }
balanced w old new (v ∷ vs) =
    let more = balanced w old new vs in
    let rest = changes_at old new vs in
    let is = sum_by-cons (λ (v : Path × List ℕ). w (content new v.0)) v vs in
    let was = sum_by-cons (λ (v : Path × List ℕ). w (content old v.0)) v vs in
    let c : Change = record { path = v.0; before = content old v.0; after = content new v.0 } in
    let gone = sum_by-cons (λ (c : Change). w c.before) c rest in
    let come = sum_by-cons (λ (c : Change). w c.after) c rest in
    elim (is_same (content old v.0) (content new v.0)) as (λ b. is_same (content old v.0) (content new v.0) ≡ b → Accounts (tally w new (v ∷ vs)) (tally w old (v ∷ vs)) (before_by w (cond b [] (c ∷ []) ++ rest)) (after_by w (cond b [] (c ∷ []) ++ rest))) [
      | true ↦ λ e.
          let same : w (content old v.0) ≡ w (content new v.0) = ap w (same_content _ _ e) in
          record {
            balance = omega (arith, is, was, same, more.balance);
            within = omega (arith, was, more.within);
          }
      | false ↦ λ e. record {
        balance = omega (arith, is, was, gone, come, more.balance);
        within = omega (arith, was, gone, more.within);
      }
    ] refl

-- ---- the first large file

abbrev pick : ℕ → Option (List ℕ) → Option ℕ → Option ℕ
pick limit None rest = rest
pick limit (Some b) rest = cond (nat_lt limit (length b)) (Some (length b)) rest

picked : (limit : ℕ) (o : Option (List ℕ)) (rest : List (List ℕ)) → find_item (nat_lt limit) (map length (option_to_list o ++ rest)) ≡ pick limit o (find_item (nat_lt limit) (map length rest))
picked limit None rest = refl
picked limit (Some b) rest = refl

picked_after : (limit : ℕ) (o : Option (List ℕ)) (rest : Option ℕ) → option_or (bytes_above limit o) rest ≡ pick limit o rest
picked_after limit None rest = refl
picked_after limit (Some b) rest =
    elim (nat_lt limit (length b)) as (λ t. option_or (cond t (Some (length b)) None) rest ≡ cond t (Some (length b)) rest) [ true ↦ refl | false ↦ refl ]

pick_none : (limit : ℕ) (o : Option (List ℕ)) (rest : Option ℕ) → pick limit o rest ≡ None → (rest ≡ None) × ((other : Option ℕ) → pick limit o other ≡ other)
pick_none limit None rest h = (h, λ other. refl)
pick_none limit (Some b) rest h =
    elim (nat_lt limit (length b)) as (λ t. cond t (Some (length b)) rest ≡ None → (rest ≡ None) × ((other : Option ℕ) → cond t (Some (length b)) other ≡ other)) [
      | true ↦ λ e. cc
      | false ↦ λ e. (e, λ other. refl)
    ] h

firsts : (limit : ℕ) (old new vs : Entries) → find_item (nat_lt limit) (map length (contents_at old vs)) ≡ None → find_item (nat_lt limit) (map length (contents_at new vs)) ≡ first_after_above limit (changes_at old new vs)
firsts limit old new [] h = refl
firsts limit old new (v ∷ vs) h =
    let rest = changes_at old new vs in
    let small = pick_none limit (content old v.0) (find_item (nat_lt limit) (map length (contents_at old vs))) (sym (picked limit (content old v.0) (contents_at old vs)) ∙ h) in
    let more = firsts limit old new vs small.0 in
    let c : Change = record { path = v.0; before = content old v.0; after = content new v.0 } in
    picked limit (content new v.0) (contents_at new vs)
    ∙ ap (pick limit (content new v.0)) more
    ∙ elim (is_same (content old v.0) (content new v.0)) as (λ b. is_same (content old v.0) (content new v.0) ≡ b → pick limit (content new v.0) (first_after_above limit rest) ≡ first_after_above limit (cond b [] (c ∷ []) ++ rest)) [
      | true ↦ λ e. ap (λ o. pick limit o (first_after_above limit rest)) (sym (same_content _ _ e)) ∙ small.1 (first_after_above limit rest)
      | false ↦ λ e. sym (picked_after limit (content new v.0) (first_after_above limit rest))
    ] refl

-- ---- of two trees

abbrev both : Entries → Entries → Entries
both old new = put_all new old

both_rise : (old new : Entries) → is_sorted path_cmp old ≡ true → is_sorted path_cmp (both old new) ≡ true
both_rise old new s = ap (is_sorted path_cmp) (put_all_is new old) ∙ sorted_put_each new old s

along_old : (old new : Entries) → is_sorted path_cmp old ≡ true → contents old ≡ contents_at old (both old new)
along_old old new s = along old (both old new) s (both_rise old new s) (λ q h. has_put_all new old q ∙ or_left _ _ h)

along_new : (old new : Entries) → is_sorted path_cmp old ≡ true → is_sorted path_cmp new ≡ true → contents new ≡ contents_at new (both old new)
along_new old new s t = along new (both old new) t (both_rise old new s) (λ q h. has_put_all new old q ∙ or_right _ _ h)

changes_are : (old new : Entries) → changes_between old new ≡ changes_at old new (both old new)
changes_are old new = over_paths (change_at old new) (put_all new old)

length_contents : (files : Entries) → length files ≡ length (contents files)
length_contents [] = refl
length_contents (e ∷ es) = ap (λ n. suc n) (length_contents es)

bytes_contents : (files : Entries) → sum_by (λ e. length e.1) files ≡ sum_by length (contents files)
bytes_contents [] = refl
bytes_contents (e ∷ es) =
    sum_by-cons (λ (e : Path × List ℕ). length e.1) e es ∙ ap (λ n. length e.1 + n) (bytes_contents es) ∙ sym (sum_by-cons (λ (b : List ℕ). length b) e.1 (contents es))

lengths_contents : (files : Entries) → map (λ e. length e.1) files ≡ map length (contents files)
lengths_contents [] = refl
lengths_contents (e ∷ es) = ap (λ t. length e.1 ∷ t) (lengths_contents es)

accounts_by : (new old gone come new' old' gone' come' : ℕ) → new ≡ new' → old ≡ old' → gone ≡ gone' → come ≡ come' → Accounts new' old' gone' come' → Accounts new old gone come
accounts_by new old gone come new' old' gone' come' a b c d h = record {
  balance = omega (arith, h.balance, a, b, c, d);
  within = omega (arith, h.within, b, c);
}

-- what the changes add to and take from the number of files
pub files_account : (old new : Entries) (cs : List Change) → is_sorted path_cmp old ≡ true → is_sorted path_cmp new ≡ true → cs ≡ changes_between old new
    → Accounts (length new) (length old) (sum_by (λ c. files_of c.before) cs) (sum_by (λ c. files_of c.after) cs)
files_account old new cs s t e =
    let vs = both old new in
    let is = e ∙ changes_are old new in
    accounts_by _ _ _ _ _ _ _ _
    (length_contents new ∙ ap (λ (l : List (List ℕ)). length l) (along_new old new s t) ∙ length_along new vs)
    (length_contents old ∙ ap (λ (l : List (List ℕ)). length l) (along_old old new s) ∙ length_along old vs)
    (ap (λ (l : List Change). before_by files_of l) is) (ap (λ (l : List Change). after_by files_of l) is)
    (balanced files_of old new vs)

pub bytes_account : (old new : Entries) (cs : List Change) → is_sorted path_cmp old ≡ true → is_sorted path_cmp new ≡ true → cs ≡ changes_between old new
    → Accounts (sum_by (λ e. length e.1) new) (sum_by (λ e. length e.1) old) (sum_by (λ c. bytes_of c.before) cs) (sum_by (λ c. bytes_of c.after) cs)
bytes_account old new cs s t e =
    let vs = both old new in
    let is = e ∙ changes_are old new in
    accounts_by _ _ _ _ _ _ _ _
    (bytes_contents new ∙ ap (λ (l : List (List ℕ)). sum_by length l) (along_new old new s t) ∙ bytes_along new vs)
    (bytes_contents old ∙ ap (λ (l : List (List ℕ)). sum_by length l) (along_old old new s) ∙ bytes_along old vs)
    (ap (λ (l : List Change). before_by bytes_of l) is) (ap (λ (l : List Change). after_by bytes_of l) is)
    (balanced bytes_of old new vs)

-- where no file was too large, the first that is so comes with a change
pub first_changed : (limit : ℕ) (old new : Entries) (cs : List Change) → is_sorted path_cmp old ≡ true → is_sorted path_cmp new ≡ true → cs ≡ changes_between old new → first_above limit old ≡ None → first_above limit new ≡ first_after_above limit cs
first_changed limit old new cs s t e none =
    let vs = both old new in
    ap (find_item (nat_lt limit)) (lengths_contents new ∙ ap (λ (l : List (List ℕ)). map length l) (along_new old new s t))
    ∙ firsts limit old new vs (sym (ap (find_item (nat_lt limit)) (lengths_contents old ∙ ap (λ (l : List (List ℕ)). map length l) (along_old old new s))) ∙ none)
    ∙ ap (first_after_above limit) (sym (e ∙ changes_are old new))

-- what is taken away first and then added, each capped
pub changed_capped : (new old gone come : ℕ) → Accounts new old gone come → old ≤ 2 ^ 64 - 1 → capped ((capped old - capped gone) + capped come) ≡ capped new
changed_capped new old gone come h small = omega (arith, h.balance, h.within)

-- ---- one change more

capped_next : (a b c : ℕ) → c ≡ a + b → capped (capped a + b) ≡ capped c
capped_next a b c e = omega arith

more_by : (f : Change → ℕ) (cs : List Change) (i : ℕ) (d : Change) → i < length cs → d ≡ get_or cs i d → capped (capped (sum_by f (take i cs)) + f d) ≡ capped (sum_by f (take (i + 1) cs))
more_by f cs i d l read =
    capped_next (sum_by f (take i cs)) (f d) (sum_by f (take (i + 1) cs)) (sum_by_more f cs i d l ∙ ap (λ x. sum_by f (take i cs) + f x) (sym read))

pub before_more : (cs : List Change) (i : ℕ) (d : Change) → i < length cs → d ≡ get_or cs i d → plus (size_before (take i cs)) (content_size d.before) ≡ size_before (take (i + 1) cs)
before_more cs i d l read =
    λ j. record { files = more_by (λ c. files_of c.before) cs i d l read j; bytes = more_by (λ c. bytes_of c.before) cs i d l read j }

pub after_more : (cs : List Change) (i : ℕ) (d : Change) → i < length cs → d ≡ get_or cs i d → plus (size_after (take i cs)) (content_size d.after) ≡ size_after (take (i + 1) cs)
after_more cs i d l read =
    λ j. record { files = more_by (λ c. files_of c.after) cs i d l read j; bytes = more_by (λ c. bytes_of c.after) cs i d l read j }
