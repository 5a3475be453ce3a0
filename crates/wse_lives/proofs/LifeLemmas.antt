-- What holds over lives.
use Rattle.std.proofs.Common.{◌≡◌, true, ◌&&◌, List, [], ◌∷◌, refl, sym, ap, subst, ◌∙◌}
use Rattle.std.specs.List.{AllByRecursion}
use Rattle.std.specs.FinMap.{is_sorted}
use Rattle.std.specs.FinMap.Entries.{below_all}
use Rattle.std.specs.Ordering.{is_lt}
use Rattle.wse_path.specs.Order.{path_cmp}
use Rattle.wse_path.specs.Path.{Path}
use Rattle.wse_path.specs.Tree.{Entries}
use Rattle.wse_path.specs.declared.command.Command.{Command}
use Rattle.wse_path.specs.declared.limits.Limits.{Limits}
use Rattle.wse_element.specs.Numbers.{are_versions_bounded, are_some}
use Rattle.wse_history.proofs.ShapeLemmas.{none_is_zero}
use Rattle.wse_element.specs.Stacks.{live_at}
use Rattle.wse_element.specs.State.{State}
use Rattle.wse_history.specs.Step.{step}
use Rattle.wse_lives.specs.Lives.{lived, Comes, IsLife, AgreesAt}
use Rattle.wse_lives.specs.Events.{Event, fresh}
use Rattle.wse_lives.specs.Events.Event.{Does, Stops, StopsIn, Finds}
use Rattle.wse_lives.proofs.AgreeLemmas.{life_agrees, none_came}
use Rattle.wse_history.specs.History.{IsHistory}
use Rattle.wse_lives.specs.Adopt.{adopted}
use Rattle.wse_lives.specs.After.{left_after, life_of, IsLived}
use Rattle.wse_lives.specs.Laws.{AdoptingKeeps, IsTrueLife, LivesFromAdopting, FreshIsSound}
use Rattle.wse_lives.proofs.StepLemmas.{commands_keep, sound_locks, comes_locks}

-- What one event keeps.
record Keeps (limits : Limits) (s next : State) : Type 0 where
  sound : IsHistory next limits
  comes : Comes s next

nothing_comes : (limits : Limits) (s : State) → IsHistory s limits → Comes s s
nothing_comes limits s sound = record { effects = []; records = refl; makes = tt; parts = sound.parts; numbered = sound.linked.kept.records.numbered }

without : (limits : Limits) (s next : State) → Keeps limits s next → Keeps limits s (record next { locks = [] })
without limits s next keeps = record { sound = sound_locks limits next [] keeps.sound; comes = comes_locks s next [] keeps.comes }

command_keeps : (limits : Limits) (s : State) (c : Command) → IsHistory s limits → Keeps limits s (step limits s c)
command_keeps limits s c sound = let k = commands_keep limits s c sound in record { sound = k.0; comes = k.1 }

module _ (adopting : AdoptingKeeps) (limits : Limits) (start : State) (begins : IsHistory start limits) where
  event_keeps : (e : Event) (earlier : List Event) → IsHistory (left_after limits start earlier) limits → IsLived limits start (e ∷ earlier) → Keeps limits (left_after limits start earlier) (left_after limits start (e ∷ earlier))
  event_keeps (Does c) earlier sound lives = command_keeps limits (left_after limits start earlier) c sound
  event_keeps Stops earlier sound lives =
      let s = left_after limits start earlier in
      without limits s s (record { sound = sound; comes = nothing_comes limits s sound })
  event_keeps (StopsIn c) earlier sound lives =
      let s = left_after limits start earlier in
      without limits s (step limits s c) (command_keeps limits s c sound)
  event_keeps (Finds files) earlier sound lives =
      let s = left_after limits start earlier in
      let k = adopting limits s files sound lives.0 lives.1 lives.2 in
      without limits s (adopted (record s { files = files })) (record { sound = k.0; comes = k.1 })

  earlier_lives : (e : Event) (earlier : List Event) → IsLived limits start (e ∷ earlier) → IsLived limits start earlier
  earlier_lives (Does c) earlier lives = lives
  earlier_lives Stops earlier lives = lives
  earlier_lives (StopsIn c) earlier lives = lives
  earlier_lives (Finds files) earlier lives = lives.3

  pub lived_is : (events : List Event) → lived start (life_of limits start events) ≡ left_after limits start events
  lived_is [] = refl
  lived_is (e ∷ earlier) = refl

  record Lives (events : List Event) : Type 0 where
    sound : IsHistory (left_after limits start events) limits
    life : IsLife start (life_of limits start events)

  all_live : (events : List Event) → IsLived limits start events → Lives events
  all_live [] lives = record { sound = begins; life = tt }
  all_live (e ∷ earlier) lives =
      let before = all_live earlier (earlier_lives e earlier lives) in
      let keeps = event_keeps e earlier before.sound lives in
      record {
        sound = keeps.sound;
        life = (subst (λ s. Comes s (left_after limits start (e ∷ earlier))) (sym (lived_is earlier)) keeps.comes, before.life);
      }

  pub true_life : (events : List Event) → IsLived limits start events → IsTrueLife limits start events
  true_life events lives =
      let all = all_live events lives in
      record {
        sound = all.sound;
        agree = λ p. subst (λ s. AllByRecursion (AgreesAt start (life_of limits start events) p) (live_at s.records p)) (lived_is events)
            (life_agrees start (life_of limits start events) p all.life (none_came start p (live_at start.records p)));
      }

pub lives_from_adopting : LivesFromAdopting
lives_from_adopting adopting limits start events begins lives = true_life adopting limits start begins events lives

-- ---- a new history

ones : (files : Entries) → are_versions_bounded 0 (fresh files).versions ≡ true
ones [] = refl
ones (e ∷ files) = ones files

all_ones : (files : Entries) → are_some (fresh files).versions ≡ true
all_ones [] = refl
all_ones (e ∷ files) = all_ones files

below_ones : (p : Path) (files : Entries) → below_all path_cmp p (fresh files).versions ≡ below_all path_cmp p files
below_ones p [] = refl
below_ones p (e ∷ files) = ap (λ b. is_lt (path_cmp p e.0) && b) (below_ones p files)

sorted_ones : (files : Entries) → is_sorted path_cmp (fresh files).versions ≡ is_sorted path_cmp files
sorted_ones [] = refl
sorted_ones (e ∷ files) = λ i. below_ones e.0 files i && sorted_ones files i

pub fresh_is_sound : FreshIsSound
fresh_is_sound limits files within tree fits known = record {
  linked = record {
    kept = record {
      records = record { different = refl; numbered = refl; live = refl; apart = refl; each = λ p. record { done_first = refl; invalid_first = refl; meet = refl } };
      rise = sorted_ones files ∙ tree.rises;
      some = all_ones files;
      bounded = refl;
      versions = ones files;
      known = known;
    };
    tree = tree;
    each = λ p. record { past = refl; future = refl };
  };
  parts = tt;
  told = none_is_zero (fresh files).versions (all_ones files);
  within = within;
  fits = fits;
}
