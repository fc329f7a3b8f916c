-- What holds of each link of a node, by its number, holds after every row by which no link begins, is called, answered or ended, and no segment is
-- sent or comes: where the effects of those rows keep it of one link.
use Rattle.accusing_segments.proofs.Prelude.{◌≡◌, ℕ, Option, Some, None, Ok, List, [], ◌∷◌, ◌++◌, sym, subst, map, fold}
use Rattle.accusing_segments.proofs.Prelude.{length, ◌⊎◌, inl, inr, slice_get, slice_set, AckWord, Queues, Sending, LinkOf, LinkTruth}
use Rattle.accusing_segments.proofs.Prelude.{with_segments, with_queue, settled, forgotten, booted_link, Effect, EndAll, Say, Settle, Keep}
use Rattle.accusing_segments.proofs.Prelude.{HandIn, WireSegments, wire_segments, delivers, WireLinks, blank, does, after, Each, IsKept, AreKept}
use Rattle.dna_links.specs.WireSegments as wire
use Rattle.accusing_links.proofs.Rows as rows
use Rattle.accusing_segments.proofs.LinkRows.{IsQuiet}
use Rattle.accusing_segments.proofs.Places.{pushed_place, set_place, mapped_place}

-- effects by which no link begins, is called, answered or ended, and nothing comes
abbrev pub IsPlain : Effect → Type 0
IsPlain EndAll = Unit {0}
IsPlain (Say said) = Unit {0}
IsPlain (Settle own) = Unit {0}
IsPlain Keep = Unit {0}
IsPlain (HandIn message) = Unit {0}
IsPlain effect = ⊥

abbrev pub ArePlain : List Effect → Type 0
ArePlain effects = Each IsPlain effects

-- ---- what is kept of one link

module _ (queues : Queues) (Is : ℕ → LinkOf WireSegments → Type 0) where
  abbrev pub All : List (LinkOf WireSegments) → Type 0
  All links = (n : ℕ) (l : LinkOf WireSegments) → slice_get links n ≡ Some l → Is n l

  -- of a link that begins it holds whatever its number will be
  abbrev pub IsAt : Option ℕ → LinkOf WireSegments → Type 0
  IsAt None l = (n : ℕ) → Is n l
  IsAt (Some n) l = Is n l

  pub record Stays : Type 0 where
    pub blank : (n : ℕ) → Is n (blank queues wire_segments)
    pub does : (truth : LinkTruth (Unit {0})) (n : ℕ) (l : LinkOf WireSegments) (effect : Effect) → IsPlain effect → Is n l →
        Is n (does queues wire_segments truth l effect)
    pub delivered : (message : List ℕ) (n : ℕ) (l : LinkOf WireSegments) (d : WireSegments) → delivers message l.segments ≡ Some d → Is n l →
        Is n (with_segments d l)
    pub gap : (gap n : ℕ) (l : LinkOf WireSegments) → Is n l → Is n (with_queue (record l.queue { gap = gap }) l)
    pub acks : (acks : List AckWord) (n : ℕ) (l : LinkOf WireSegments) (sent : Sending WireSegments (Unit {0})) →
        wire.sends_acks acks l.segments ≡ Ok sent → Is n l → Is n (with_segments sent.segments l)
    pub forgotten : (n : ℕ) (l : LinkOf WireSegments) → Is n l → Is n (forgotten wire_segments queues l)
    pub booted : (n : ℕ) (l : LinkOf WireSegments) → Is n l → Is n (booted_link wire_segments queues l)
    pub settled : (n : ℕ) (l : LinkOf WireSegments) → Is n l → Is n (settled wire_segments l.queue.waits l)

  pub at_any : (n : Option ℕ) (l m : LinkOf WireSegments) → ((i : ℕ) → Is i l → Is i m) → IsAt n l → IsAt n m
  at_any None l m keeps is = λ i. keeps i (is i)
  at_any (Some n) l m keeps is = keeps n is

  pub all_pushed : (links : List (LinkOf WireSegments)) (l : LinkOf WireSegments) → All links → Is (length links) l → All (links ++ l ∷ [])
  all_pushed links l are is n m at = go (pushed_place links l n m at)
    where
      go : (slice_get links n ≡ Some m) ⊎ ((n ≡ length links) × (l ≡ m)) → Is n m
      go (inl there) = are n m there
      go (inr (last, this)) = subst (λ (i : ℕ). Is i m) (sym last) (subst (Is (length links)) this is)

  pub all_changed : (links : List (LinkOf WireSegments)) (i : ℕ) (l : LinkOf WireSegments) → All links → Is i l → All (slice_set links i l)
  all_changed links i l are is n m at = go (set_place links i l n m at)
    where
      go : ((slice_get links n ≡ Some m) × (n ≡ i → ⊥)) ⊎ ((n ≡ i) × (l ≡ m)) → Is n m
      go (inl (there, other)) = are n m there
      go (inr (same, this)) = subst (λ (j : ℕ). Is j m) (sym same) (subst (Is i) this is)

  module _ (stays : Stays) where
    all_booted : (links : List (LinkOf WireSegments)) → All links → All (map (booted_link wire_segments queues) links)
    all_booted links are n m at =
        let found = mapped_place (booted_link wire_segments queues) links n m at in
        subst (Is n) found.1.1 (stays.booted n found.0 (are n found.0 found.1.0))

    does_stay : (truth : LinkTruth (Unit {0})) (n : Option ℕ) (l : LinkOf WireSegments) (effect : Effect) → IsPlain effect → IsAt n l →
        IsAt n (does queues wire_segments truth l effect)
    does_stay truth n l effect plain is = at_any n l (does queues wire_segments truth l effect) (λ i here. stays.does truth i l effect plain here) is

    pub all_done : (truth : LinkTruth (Unit {0})) (n : Option ℕ) (l : LinkOf WireSegments) (effects : List Effect) → ArePlain effects → IsAt n l →
        IsAt n (fold (does queues wire_segments truth) l effects)
    all_done truth n = rows.all_done queues truth IsPlain (IsAt n) (does_stay truth n)

    module _ (s : WireLinks) (are : All s.links) where
      abbrev Are : WireLinks → Type 0
      Are x = All x.links

      pub keeps : (truth : LinkTruth (Unit {0})) → IsKept queues s IsAt IsQuiet IsPlain truth
      keeps truth = record {
        none = stays.blank;
        there = are;
        delivered = λ message n l d made is. at_any n l (with_segments d l) (λ i here. stays.delivered message i l d made here) is;
        sent = λ segment n l f gap quiet made is. absurd quiet;
        acks = λ acks n l sent gap quiet made is. at_any n l (with_queue (record l.queue { gap = gap }) (with_segments sent.segments l))
            (λ i here. stays.gap gap i (with_segments sent.segments l) (stays.acks acks i l sent made here)) is;
        does = does_stay truth;
      }

      pub all_keep : AreKept queues s IsAt Are
      all_keep = record {
        same = are;
        there = are;
        forgets = stays.forgotten;
        settles = λ n l is. stays.settled n l is;
        pushes = λ x l all is. all_pushed x.links l all (is _);
        changes = λ x n l all is. all_changed x.links n l all is;
        boots = all_booted s.links are;
      }

      pub after_stays : (effects : List Effect) (n : Option ℕ) (l : LinkOf WireSegments) (k : Unit {0}) → IsAt n l →
          Are (after queues wire_segments s effects n l k)
      after_stays = rows.after_kept queues s IsAt Are all_keep
