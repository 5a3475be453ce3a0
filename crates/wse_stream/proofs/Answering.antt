-- What was answered so far.
use Rattle.std.proofs.Common.{◌≡◌, ℕ, ◌+◌, List, [], ◌∷◌, ◌++◌, length, Option, refl, sym, ap, subst, ◌∙◌, arith, length-append}
use Rattle.std.proofs.lemmas.List.{append-nil}
use Rattle.wse_io.specs.Stream.{Piece, Adds, bytes_of}
use Rattle.wse_io.proofs.StreamLemmas.{adds_none, adds_more, bytes_of-nil, bytes_of-append}
use Rattle.wse_stream.specs.Machine.{Machine, transcript, state_after}
use Rattle.wse_stream.specs.Scene.{DiskAt}
use Rattle.wse_stream.specs.Rests.{Rests, StaysTold}
use Rattle.wse_disk.specs.Told.{CountsMoments}
use Rattle.wse_stream.specs.Run.{Ran}
use Rattle.wse_stream.proofs.Transcript.{transcript-nil, transcript-append, state_after-nil, state_after-one, state_after-append}
use Rattle.wse_stream.proofs.RunLemmas.{ran_none, ran_more, ran_wider}

-- the lines done so far are all answered, from the state s before them to u behind them
pub record Answers {S : Type 0} (m : Machine S) (pieces_old pieces_now : Option (List Piece)) (before now : DiskAt) (s u : S) (n : ℕ) (done : List (List ℕ)) (added : List Piece) : Type 0 where
  pub adds : Adds pieces_old pieces_now added
  pub ran : Ran m before now 1 s done added
  pub whole : bytes_of added ≡ transcript m 1 s done
  pub state : u ≡ state_after m s done
  pub rests : Rests now.told (m.stands u)
  pub still : StaysTold before.told now.told
  pub number : n ≡ 1 + length done

module _ {S : Type 0} (m : Machine S) where
  pub answers_none : (pieces : Option (List Piece)) (disk : DiskAt) (s : S) → CountsMoments disk.told disk.moment → Rests disk.told (m.stands s) → Answers m pieces pieces disk disk s s 1 [] []
  answers_none pieces disk s counts rests = record {
    adds = adds_none pieces pieces refl;
    ran = ran_none m disk 1 s counts rests;
    whole = bytes_of-nil ∙ sym (transcript-nil m 1 s);
    state = sym (state_after-nil m s);
    rests = rests;
    still = λ t. t;
    number = refl;
  }

  -- one line more is answered
  pub answers_more : (pieces_old pieces_now pieces_new : Option (List Piece)) (before middle now : DiskAt) (s u v : S) (n : ℕ) (done : List (List ℕ)) (line : List ℕ) (ps qs : List Piece)
      → Answers m pieces_old pieces_now before middle s u n done ps → Adds pieces_now pieces_new qs
      → Ran m middle now n u (line ∷ []) qs
      → bytes_of qs ≡ transcript m n u (line ∷ []) → v ≡ m.after u line → Rests now.told (m.stands v) → StaysTold middle.told now.told
      → Answers m pieces_old pieces_new before now s v (n + 1) (done ++ line ∷ []) (ps ++ qs)
  answers_more pieces_old pieces_now pieces_new before middle now s u v n done line ps qs a adds ran whole next rests still = record {
    adds = adds_more _ _ _ ps qs a.adds adds;
    ran = ran_more m before middle now 1 n s u done (line ∷ []) ps qs a.still a.ran a.whole a.number a.state ran;
    whole = bytes_of-append ps qs ∙ ap (λ l. l ++ bytes_of qs) a.whole
        ∙ ap (λ l. transcript m 1 s done ++ l) (whole ∙ ap (λ k. transcript m k u (line ∷ [])) a.number ∙ ap (λ w. transcript m (1 + length done) w (line ∷ [])) a.state)
        ∙ sym (transcript-append m 1 s done (line ∷ []));
    state = next ∙ ap (λ w. m.after w line) a.state ∙ sym (state_after-append m s done (line ∷ []) ∙ state_after-one m (state_after m s done) line);
    rests = rests;
    still = λ t. still (a.still t);
    number = omega (arith, a.number, length-append done (line ∷ []));
  }

  -- the run so far is one over all lines of what was taken
  pub ran_over : (before now : DiskAt) (s : S) (done more all : List (List ℕ)) (ps : List Piece) → Ran m before now 1 s done ps → all ≡ done ++ more → Ran m before now 1 s all ps
  ran_over before now s done more all ps a e = subst (λ l. Ran m before now 1 s l ps) (sym e) (ran_wider m before now 1 s done more ps a)

-- nothing was left to answer
pub all_done : (done more all : List (List ℕ)) → all ≡ done ++ more → more ≡ [] → all ≡ done
all_done done more all e n = e ∙ ap (λ l. done ++ l) n ∙ append-nil done
