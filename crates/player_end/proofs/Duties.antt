-- What the first link has to send that has anything, by the first mark; and the same of the links that live.
use Rattle.std.proofs.Common.{◌≡◌, ℕ, suc, Bool, true, ◌+◌, ◌≤◌, Option, Some, None, option_map, List, [], ◌∷◌, length, position, refl, sym, ap, ◌∙◌}
use Rattle.std.proofs.Common.{arith, ◌⊎◌, inl, inr}
use Rattle.std.specs.Prelude.{slice_get, slice_set, is_some}
use Rattle.std.proofs.lemmas.Option.{none-some}
use Rattle.dna_links.proofs.Runs.Owners.{there_is}
use Rattle.dna_links.proofs.Runs.Sides.{set_other, at_set}
use Rattle.dna_links.proofs.Tables.Outcomes.{position_passes, position_within}
use Rattle.dna_play.specs.LinkOwed.{EndConfirm, Duty}
use Rattle.dna_play.specs.NextSent.{LinkEnd, LinkChoice, Confirms, OfLink, duty_of, duty_or_next, first_duty, link_choice}
use Rattle.dna_play.specs.StoredEnd.{StoredLinks}
use Rattle.dna_play.specs.Compose.{link_message, message_at}
use Rattle.dna_play.proofs.Links.Choices.{first_chosen}
use Rattle.dna_play.proofs.Links.Lists.{position_here, position_later}
use Rattle.player_end.specs.inner.Index.{live_ends, AreMarked, among_live, place_among}
use Rattle.player_end.specs.inner.Links.{duty_there}
use Rattle.player_end.specs.inner.Marks.{IsUnmarkedBelow}
use Rattle.player_end.proofs.Finding.{NoneBelow, found_first, found_none, unknown}
use Rattle.player_end.proofs.LiveLists.{lives, live_get, live_position}

-- ---- the first link that has a duty is the first at which this passes

abbrev has : Option LinkEnd → Bool
has o = is_some (duty_there o)

abbrev it : LinkEnd → Bool
it l = has (Some l)

abbrev named : ℕ → List LinkEnd → Option ℕ → Option LinkChoice
named from links None = None
named from links (Some n) = option_map (λ (duty : Duty). OfLink (from + n) duty) (duty_there (slice_get links n))

by_place : (from : ℕ) (links : List LinkEnd) → first_duty from links ≡ named from links (position it links)
by_place from [] = refl
by_place from (l ∷ links) = go (duty_of l) refl (by_place (from + 1) links)
  where
    here : from ≡ from + 0
    here = omega arith

    further : (n : ℕ) → from + 1 + n ≡ from + suc n
    further n = omega arith

    shifted : (o : Option ℕ) → named (from + 1) links o ≡ named from (l ∷ links) (option_map suc o)
    shifted None = refl
    shifted (Some n) = ap (λ (k : ℕ). option_map (λ (duty : Duty). OfLink k duty) (duty_there (slice_get links n))) (further n)

    go : (o : Option Duty) → duty_of l ≡ o → first_duty (from + 1) links ≡ named (from + 1) links (position it links) →
        duty_or_next from o (first_duty (from + 1) links) ≡ named from (l ∷ links) (position it (l ∷ links))
    go None is later =
        later ∙ shifted (position it links)
        ∙ sym (ap (named from (l ∷ links)) (position_later it l links (ap is_some is)))
    go (Some duty) is later =
        ap (λ (k : ℕ). Some (OfLink k duty)) here ∙ sym (ap (option_map (λ (d : Duty). OfLink (from + 0) d)) is)
        ∙ sym (ap (named from (l ∷ links)) (position_here it l links (ap is_some is)))

first_at : (links : List LinkEnd) (n : ℕ) (duty : Duty) → position it links ≡ Some n → duty_there (slice_get links n) ≡ Some duty →
    first_duty 0 links ≡ Some (OfLink n duty)
first_at links n duty e is =
    by_place 0 links ∙ ap (named 0 links) e ∙ ap (option_map (λ (d : Duty). OfLink (0 + n) d)) is ∙ ap (λ (k : ℕ). Some (OfLink k duty)) here
  where
    here : 0 + n ≡ n
    here = omega arith

some_duty : (o : Option Duty) → is_some o ≡ true → (duty : Duty) × (o ≡ Some duty)
some_duty None h = absurd cc
some_duty (Some duty) h = (duty, refl)

-- ---- by the marks

module _ (links : List LinkEnd) (marks : List ℕ) (marked : AreMarked links marks) where
  none_below : (n : ℕ) → IsUnmarkedBelow n marks → NoneBelow has links n
  none_below n below k less =
      unknown has refl links k (λ l at h. (let some = some_duty (duty_of l) h in below k less (marked k l some.0 at some.1)))

  pub duty_first : (n : ℕ) (duty : Duty) → IsUnmarkedBelow n marks → duty_there (slice_get links n) ≡ Some duty →
      first_duty 0 links ≡ Some (OfLink n duty)
  duty_first n duty below e = first_at links n duty (found_first has refl links n (ap is_some e) (none_below n below)) e

  pub no_duty : (n : ℕ) → length links ≤ n → IsUnmarkedBelow n marks → first_duty 0 links ≡ None
  no_duty n le below = by_place 0 links ∙ ap (named 0 links) (found_none has refl links n (none_below n below) le)

  -- a link that has nothing to send is marked no more
  pub still_marked : (n : ℕ) → duty_there (slice_get links n) ≡ None → AreMarked links (slice_set marks n 0)
  still_marked n none k link duty at is = set_other marks n k 0 differs ∙ marked k link duty at is
    where
      differs : k ≡ n → ⊥
      differs same = none-some duty (sym none ∙ ap (λ (i : ℕ). duty_there (slice_get links i)) (sym same) ∙ ap duty_there at ∙ is)

pub unmarked_through : (marks : List ℕ) (n : ℕ) → IsUnmarkedBelow n marks → IsUnmarkedBelow (n + 1) (slice_set marks n 0)
unmarked_through marks n below k less e = go (at_set marks n k 0 1 e)
  where
    go : ((k ≡ n) × (◌≡◌ {A = ℕ} 0 1)) ⊎ ((k ≡ n → ⊥) × (slice_get marks k ≡ Some 1)) → ⊥
    go (inl p) = omega (arith, p.1)
    go (inr p) = below k (omega (arith, less, p.0)) p.1

-- ---- the link that is chosen

pub record Stands (links : List LinkEnd) (n : ℕ) (duty : Duty) : Type 0 where
  pub link : LinkEnd
  pub there : slice_get links n ≡ Some link
  pub has : duty_of link ≡ Some duty

pub chosen_stands : (confirms : List EndConfirm) (links : List LinkEnd) (n : ℕ) (duty : Duty) → link_choice confirms links ≡ Some (OfLink n duty) →
    Stands links n duty
chosen_stands [] links n duty e =
    let at = first_chosen 0 links (OfLink n duty) e in
    let is = at.is in
    let placed : 0 + at.place ≡ n = cc in
    let due : at.duty ≡ duty = cc in
    let same : n ≡ at.place = omega (arith, placed) in
    record { link = at.e; there = ap (slice_get links) same ∙ at.there; has = at.has ∙ ap Some due }
chosen_stands (confirm ∷ later) links n duty e = absurd cc

-- ---- the same of those that live, where a link that has ended has nothing to send

abbrev pub AllSilent : StoredLinks → Type 0
AllSilent s = (k : ℕ) (link : LinkEnd) (duty : Duty) → slice_get s.links k ≡ Some link → duty_of link ≡ Some duty → lives link ≡ true

module _ (confirms : List EndConfirm) (links : List LinkEnd)
    (ended : (k : ℕ) (link : LinkEnd) (duty : Duty) → slice_get links k ≡ Some link → duty_of link ≡ Some duty → lives link ≡ true) where
  place_live : (o : Option ℕ) → position it links ≡ o → position it (live_ends links) ≡ option_map (λ (n : ℕ). place_among n links) o
  place_live o e =
      live_position it links (λ n l at h. (let some = some_duty (duty_of l) h in ended n l some.0 at some.1))
      ∙ ap (option_map (λ (n : ℕ). place_among n links)) e

  first_live : (o : Option ℕ) → position it links ≡ o → first_duty 0 (live_ends links) ≡ option_map (among_live links) (first_duty 0 links)
  first_live None e =
      by_place 0 (live_ends links) ∙ ap (named 0 (live_ends links)) (place_live None e)
      ∙ sym (ap (option_map (among_live links)) (by_place 0 links ∙ ap (named 0 links) e))
  first_live (Some n) e =
      let l = there_is links n (position_within it links n e) in
      let some = some_duty (duty_of l.0) (position_passes it links n l.0 e l.1) in
      let live = live_get links n l.0 l.1 (ended n l.0 some.0 l.1 some.1) in
      first_at (live_ends links) (place_among n links) some.0 (place_live (Some n) e) (ap duty_there live ∙ some.1)
      ∙ sym (ap (option_map (among_live links)) (first_at links n some.0 e (ap duty_there l.1 ∙ some.1)))

  pub chosen_among : link_choice confirms (live_ends links) ≡ option_map (among_live links) (link_choice confirms links)
  chosen_among = go confirms
    where
      go : (cs : List EndConfirm) → link_choice cs (live_ends links) ≡ option_map (among_live links) (link_choice cs links)
      go [] = first_live (position it links) refl
      go (confirm ∷ later) = refl

  pub message_among : (c : LinkChoice) → link_choice confirms links ≡ Some c →
      link_message (among_live links c) (live_ends links) ≡ link_message c links
  message_among (Confirms confirm) e = refl
  message_among (OfLink n duty) e =
      let s = chosen_stands confirms links n duty e in
      ap (λ (o : Option LinkEnd). message_at o duty) (live_get links n s.link s.there (ended n s.link duty s.there s.has) ∙ sym s.there)
