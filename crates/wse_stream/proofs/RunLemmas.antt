-- How runs of a machine are made and joined.
use Rattle.std.proofs.Common.{◌≡◌, ◌⊎◌, inl, inr, ⊎_elim, ℕ, ◌+◌, ◌≤◌, List, [], ◌∷◌, ◌++◌, length, take, sym, ap, subst, ◌∙◌, arith, length-append}
use Rattle.std.proofs.lemmas.List.{take-append-le}
use Rattle.std.proofs.Math.Seq.{take-append-add}
use Rattle.wse_disk.specs.Reading.{Reading}
use Rattle.wse_disk.specs.Told.{CountsMoments}
use Rattle.wse_io.specs.Stream.{Piece, bytes_of, AllAt, Within, IsPrefix}
use Rattle.wse_io.proofs.StreamLemmas.{prefix-nil, prefix_of, prefix_behind, prefix_trans, bytes_of-nil, bytes_of-append, within-nil, within-append, within_at, within_wider}
use Rattle.wse_stream.specs.Emitted.{emitted_by}
use Rattle.wse_stream.specs.Machine.{Machine, transcript, state_after}
use Rattle.wse_stream.specs.Scene.{DiskAt}
use Rattle.wse_stream.specs.Rests.{Rests, Stretches, StaysTold}
use Rattle.wse_stream.specs.Run.{StandsWithin, HoldsFront, Ran}
use Rattle.wse_stream.proofs.PieceLemmas.{by_order, emitted_front, emitted-nil, none_by, front_by, all_by}
use Rattle.wse_stream.proofs.Transcript.{transcript-append, state_after-nil, state_after-one, state_after-append}
use Rattle.wse_stream.proofs.MomentLemmas.{left_now_only, rests_leave, stretch_before, stretch_since}

module _ {S : Type 0} (m : Machine S) where
  -- a front of the first list is a front of both
  holds_left : (n : ℕ) (s : S) (xs ys : List (List ℕ)) (out : List ℕ) (c : Reading) → HoldsFront m n s xs out c → HoldsFront m n s (xs ++ ys) out c
  holds_left n s xs ys out c h =
      let front = take-append-le h.front xs ys h.within in
      record {
        front = h.front;
        within = omega (arith, h.within, length-append xs ys);
        stands = subst (λ ls. m.stands (state_after m s ls) c) (sym front) h.stands;
        answered = subst (λ ls. IsPrefix out (transcript m n s ls)) (sym front) h.answered;
      }

  within_left : (s : S) (xs ys : List (List ℕ)) (c : Reading) → StandsWithin m s xs c → StandsWithin m s (xs ++ ys) c
  within_left s xs ys c h = record {
    front = h.front;
    within = omega (arith, h.within, length-append xs ys);
    stands = subst (λ ls. m.stands (state_after m s ls) c) (sym (take-append-le h.front xs ys h.within)) h.stands;
  }

  -- the first list and a front of the second
  behind : (s : S) (xs ys : List (List ℕ)) (front : ℕ) (c : Reading) → m.stands (state_after m (state_after m s xs) (take front ys)) c → m.stands (state_after m s (take (length xs + front) (xs ++ ys))) c
  behind s xs ys front c h =
      subst (λ ls. m.stands (state_after m s ls) c) (sym (take-append-add xs ys front)) (subst (λ u. m.stands u c) (sym (state_after-append m s xs (take front ys))) h)

  within_right : (s : S) (xs ys : List (List ℕ)) (c : Reading) → StandsWithin m (state_after m s xs) ys c → StandsWithin m s (xs ++ ys) c
  within_right s xs ys c h = record {
    front = length xs + h.front;
    within = omega (arith, h.within, length-append xs ys);
    stands = behind s xs ys h.front c h.stands;
  }

  answered_behind : (n : ℕ) (s : S) (xs ys : List (List ℕ)) (front : ℕ) (out : List ℕ) → IsPrefix out (transcript m n s xs ++ transcript m (n + length xs) (state_after m s xs) (take front ys)) → IsPrefix out (transcript m n s (take (length xs + front) (xs ++ ys)))
  answered_behind n s xs ys front out p =
      subst (λ ls. IsPrefix out (transcript m n s ls)) (sym (take-append-add xs ys front)) (subst (λ t. IsPrefix out t) (sym (transcript-append m n s xs (take front ys))) p)

  holds_right : (n : ℕ) (s : S) (xs ys : List (List ℕ)) (out : List ℕ) (c : Reading) → HoldsFront m (n + length xs) (state_after m s xs) ys out c → HoldsFront m n s (xs ++ ys) (transcript m n s xs ++ out) c
  holds_right n s xs ys out c h = record {
    front = length xs + h.front;
    within = omega (arith, h.within, length-append xs ys);
    stands = behind s xs ys h.front c h.stands;
    answered = answered_behind n s xs ys h.front _ (prefix_behind (transcript m n s xs) out _ h.answered);
  }

  -- what was out are answers to the first list, and the image may hold more
  holds_more : (n : ℕ) (s : S) (xs ys : List (List ℕ)) (out : List ℕ) (c : Reading) → IsPrefix out (transcript m n s xs) → StandsWithin m (state_after m s xs) ys c → HoldsFront m n s (xs ++ ys) out c
  holds_more n s xs ys out c p h = record {
    front = length xs + h.front;
    within = omega (arith, h.within, length-append xs ys);
    stands = behind s xs ys h.front c h.stands;
    answered = answered_behind n s xs ys h.front out (prefix_of out (transcript m n s xs) _ p);
  }

  -- what stands within holds a front, where nothing was out
  pub holds_nothing : (n : ℕ) (s : S) (xs : List (List ℕ)) (out : List ℕ) (c : Reading) → out ≡ [] → StandsWithin m s xs c → HoldsFront m n s xs out c
  holds_nothing n s xs out c e h = record {
    front = h.front;
    within = h.within;
    stands = h.stands;
    answered = subst (λ o. IsPrefix o (transcript m n s (take h.front xs))) (sym e) (prefix-nil _);
  }

  pub within_none : (s : S) (ls : List (List ℕ)) (c : Reading) → m.stands s c → StandsWithin m s ls c
  within_none s ls c h = record { front = 0; within = omega arith; stands = subst (λ u. m.stands u c) (sym (state_after-nil m s)) h }

  one_within : (s : S) (x : List ℕ) (c : Reading) → m.stands s c ⊎ m.stands (m.after s x) c → StandsWithin m s (x ∷ []) c
  one_within s x c (inl h) = within_none s (x ∷ []) c h
  one_within s x c (inr h) = record { front = 1; within = omega arith; stands = subst (λ u. m.stands u c) (sym (state_after-one m s x)) h }

module _ {S : Type 0} (m : Machine S) where
  -- before the first line
  pub ran_none : (disk : DiskAt) (n : ℕ) (s : S) → CountsMoments disk.told disk.moment → Rests disk.told (m.stands s) → Ran m disk disk n s [] []
  ran_none disk n s counts rests = record {
    later = omega arith;
    output = subst (λ out. IsPrefix out (transcript m n s [])) (sym bytes_of-nil) (prefix-nil _);
    times = within-nil _ _;
    since = λ told t c le left. holds_nothing m n s [] _ c (emitted-nil t) (within_none m s [] c (rests_leave disk.told (m.stands s) rests c (left_now_only disk.told disk.moment t c counts le left)));
    earlier = λ told t c le left. inl left;
  }

  -- more lines behind a run that answered all of its own
  pub ran_more : (before middle now : DiskAt) (n k : ℕ) (s u : S) (xs ys : List (List ℕ)) (ps qs : List Piece)
      → StaysTold before.told middle.told → Ran m before middle n s xs ps → bytes_of ps ≡ transcript m n s xs → k ≡ n + length xs → u ≡ state_after m s xs
      → Ran m middle now k u ys qs → Ran m before now n s (xs ++ ys) (ps ++ qs)
  ran_more before middle now n k s u xs ys ps qs still a whole at from b' =
      let b = subst (λ i. Ran m middle now i (state_after m s xs) ys qs) at (subst (λ w. Ran m middle now k w ys qs) from b') in
      let joined : bytes_of (ps ++ qs) ≡ transcript m n s xs ++ bytes_of qs = bytes_of-append ps qs ∙ ap (λ r. r ++ bytes_of qs) whole in
      record {
        later = omega (arith, a.later, b.later);
        output = subst (λ out. IsPrefix out (transcript m n s (xs ++ ys))) (sym joined)
            (subst (λ t. IsPrefix (transcript m n s xs ++ bytes_of qs) t) (sym (transcript-append m n s xs ys)) (prefix_behind (transcript m n s xs) _ _ b.output));
        times = within-append _ _ ps qs (within_wider _ _ _ _ ps (omega arith) b.later a.times) (within_wider _ _ _ _ qs a.later (omega arith) b.times);
        since = λ told t c le left. by_order (HoldsFront m n s (xs ++ ys) (emitted_by t (ps ++ qs)) c) t middle.moment
            (λ lt. subst (λ o. HoldsFront m n s (xs ++ ys) o c) (sym (front_by t _ _ ps qs lt b.times))
            (⊎_elim
            (λ left'. holds_left m n s xs ys _ c (a.since told t c le left'))
            (λ now'. holds_more m n s xs ys _ c (subst (λ o. IsPrefix (emitted_by t ps) o) whole (emitted_front t ps)) now')
            (b.earlier (still told) t c (omega arith) left)))
            (λ ge. subst (λ o. HoldsFront m n s (xs ++ ys) o c) (sym (all_by t _ _ ps qs ge a.times ∙ ap (λ r. r ++ emitted_by t qs) whole)) (holds_right m n s xs ys _ c (b.since (still told) t c ge left)));
        earlier = λ told t c le left. ⊎_elim
            (λ left'. ⊎_elim (λ l. inl l) (λ now'. inr (within_left m s xs ys c now')) (a.earlier told t c le left'))
            (λ now'. inr (within_right m s xs ys c now'))
            (b.earlier (still told) t c (omega (arith, le, a.later)) left);
      }

  -- a run is one over more lines
  pub ran_wider : (before now : DiskAt) (n : ℕ) (s : S) (xs ys : List (List ℕ)) (ps : List Piece) → Ran m before now n s xs ps → Ran m before now n s (xs ++ ys) ps
  ran_wider before now n s xs ys ps a = record {
    later = a.later;
    output = subst (λ t. IsPrefix (bytes_of ps) t) (sym (transcript-append m n s xs ys)) (prefix_of (bytes_of ps) _ _ a.output);
    times = a.times;
    since = λ told t c le left. holds_left m n s xs ys _ c (a.since told t c le left);
    earlier = λ told t c le left. ⊎_elim (λ l. inl l) (λ now'. inr (within_left m s xs ys c now')) (a.earlier told t c le left);
  }

  -- one line, of which nothing was emitted
  pub ran_silent : (before now : DiskAt) (n : ℕ) (s : S) (line : List ℕ) → CountsMoments before.told before.moment → before.moment ≤ now.moment
      → Stretches before.told now.told (λ c. m.stands s c ⊎ m.stands (m.after s line) c) → Ran m before now n s (line ∷ []) []
  ran_silent before now n s line counts later stretch = record {
    later = later;
    output = subst (λ out. IsPrefix out (transcript m n s (line ∷ []))) (sym bytes_of-nil) (prefix-nil _);
    times = within-nil _ _;
    since = λ told t c le left. holds_nothing m n s (line ∷ []) _ c (emitted-nil t) (one_within m s line c (stretch_since before.told now.told before.moment t _ c counts told stretch le left));
    earlier = λ told t c le left. ⊎_elim (λ l. inl l) (λ h. inr (one_within m s line c h)) (stretch_before before.told now.told before.moment t _ c counts told stretch le left);
  }

  -- one line, of whose answer a front was emitted once nothing was pending
  pub ran_emitted : (before now : DiskAt) (n : ℕ) (s : S) (line : List ℕ) (ps : List Piece) → CountsMoments before.told before.moment → CountsMoments now.told now.moment → before.moment ≤ now.moment
      → Stretches before.told now.told (λ c. m.stands s c ⊎ m.stands (m.after s line) c) → Rests now.told (m.stands (m.after s line))
      → AllAt now.moment ps → IsPrefix (bytes_of ps) (transcript m n s (line ∷ [])) → Ran m before now n s (line ∷ []) ps
  ran_emitted before now n s line ps counts counts' later stretch rests at front =
      let silent = ran_silent before now n s line counts later stretch in
      let from_end : Within now.moment now.moment ps = within_at _ _ now.moment ps (omega arith) (omega arith) at in
      record {
        later = later;
        output = front;
        times = within_at _ _ now.moment ps later (omega arith) at;
        since = λ told t c le left. by_order (HoldsFront m n s (line ∷ []) (emitted_by t ps) c) t now.moment
            (λ lt. subst (λ o. HoldsFront m n s (line ∷ []) o c) (emitted-nil t ∙ sym (none_by t _ _ ps lt from_end)) (silent.since told t c le left))
            (λ ge. record {
              front = 1;
              within = omega arith;
              stands = subst (λ u. m.stands u c) (sym (state_after-one m s line)) (rests_leave now.told _ rests c (left_now_only now.told now.moment t c counts' ge left));
              answered = prefix_trans _ _ _ (emitted_front t ps) front;
            });
        earlier = silent.earlier;
      }
