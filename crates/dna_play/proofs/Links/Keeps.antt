-- The links of an end beside all links of its node: each that lives is kept at its place, with what it owes, and fits; of one that is over nothing is
-- kept. What becomes of one link of the node becomes of it where it is kept.
use Rattle.dna_play.proofs.Prelude.{◌≡◌, ℕ, zero, suc, Bool, true, false, Option, Some, None, option_map, List, [], ◌∷◌, ◌++◌, refl, sym, ap, subst}
use Rattle.dna_play.proofs.Prelude.{◌∙◌, position, slice_get, slice_set, remove, and_parts, false_from_ne_true, same_Some, LinkTest, TheLink}
use Rattle.dna_play.proofs.Prelude.{LiveTo, LiveAt, CallingAt, CalledBy, ActedOn, Port, passes, is_live, is_called, is_calling, is_connected, is_at}
use Rattle.dna_play.proofs.Prelude.{has_both, LinkOf, number_of, at_number, with_link, TrueSegments, Links, LinkOwed, LinkEnd, StoredLinks}
use Rattle.dna_play.proofs.Prelude.{at_place, with_end, IsFound, position_passes, LinkList}
use Rattle.dna_play.proofs.{Links.Fits.LinkFits, Links.Pays.OwedFits, Links.Pays.end_of, Links.Lists.position_here, Links.Lists.position_later}
use Rattle.dna_play.proofs.Links.Phases.{called_is, calling_is, connected_is, connected_when}

-- ---- what is kept

pub record IsKept (l : LinkOf TrueSegments) (o : LinkOwed) : Type 0 where
  pub lives : is_live l.port.phase ≡ true
  pub fits : LinkFits l
  pub owes : OwedFits l o

pub data Keeps : LinkList → List LinkEnd → Type 0 where
  NoLink : Keeps [] []
  Over : {l : LinkOf TrueSegments} {links : LinkList} {ends : List LinkEnd} → is_live l.port.phase ≡ false → Keeps links ends → Keeps (l ∷ links) ends
  Lives : {l : LinkOf TrueSegments} {o : LinkOwed} {links : LinkList} {ends : List LinkEnd} → IsKept l o → Keeps links ends →
      Keeps (l ∷ links) (end_of l o ∷ ends)

-- the link with this number is kept at this place
pub data At (l : LinkOf TrueSegments) (o : LinkOwed) : (n place : ℕ) → LinkList → List LinkEnd → Type 0 where
  Here : {links : LinkList} {ends : List LinkEnd} → IsKept l o → Keeps links ends → At l o 0 0 (l ∷ links) (end_of l o ∷ ends)
  BehindOver : {n place : ℕ} {k : LinkOf TrueSegments} {links : LinkList} {ends : List LinkEnd} → is_live k.port.phase ≡ false →
      At l o n place links ends → At l o (suc n) place (k ∷ links) ends
  BehindOne : {n place : ℕ} {k : LinkOf TrueSegments} {p : LinkOwed} {links : LinkList} {ends : List LinkEnd} → IsKept k p →
      At l o n place links ends → At l o (suc n) (suc place) (k ∷ links) (end_of k p ∷ ends)

module _ {l : LinkOf TrueSegments} {o : LinkOwed} where
  pub kept_there : {n place : ℕ} {links : LinkList} {ends : List LinkEnd} → At l o n place links ends → slice_get ends place ≡ Some (end_of l o)
  kept_there (Here kept rest) = refl
  kept_there (BehindOver over at) = kept_there at
  kept_there (BehindOne one at) = kept_there at

  pub link_there : {n place : ℕ} {links : LinkList} {ends : List LinkEnd} → At l o n place links ends → slice_get links n ≡ Some l
  link_there (Here kept rest) = refl
  link_there (BehindOver over at) = link_there at
  link_there (BehindOne one at) = link_there at

  pub is_kept : {n place : ℕ} {links : LinkList} {ends : List LinkEnd} → At l o n place links ends → IsKept l o
  is_kept (Here kept rest) = kept
  is_kept (BehindOver over at) = is_kept at
  is_kept (BehindOne one at) = is_kept at

  -- it changes
  pub keeps_set : {n place : ℕ} {links : LinkList} {ends : List LinkEnd} (k : LinkOf TrueSegments) (p : LinkOwed) → At l o n place links ends →
      IsKept k p → Keeps (slice_set links n k) (slice_set ends place (end_of k p))
  keeps_set k p (Here was rest) kept = Lives kept rest
  keeps_set k p (BehindOver over at) kept = Over over (keeps_set k p at kept)
  keeps_set k p (BehindOne one at) kept = Lives one (keeps_set k p at kept)

  -- it is over
  pub keeps_no_more : {n place : ℕ} {links : LinkList} {ends : List LinkEnd} (k : LinkOf TrueSegments) → At l o n place links ends →
      is_live k.port.phase ≡ false → Keeps (slice_set links n k) (remove ends place)
  keeps_no_more k (Here was rest) over = Over over rest
  keeps_no_more k (BehindOver before at) over = Over before (keeps_no_more k at over)
  keeps_no_more k (BehindOne one at) over = Lives one (keeps_no_more k at over)

-- a new one
pub keeps_begun : {links : LinkList} {ends : List LinkEnd} (k : LinkOf TrueSegments) (p : LinkOwed) → Keeps links ends → IsKept k p →
    Keeps (links ++ k ∷ []) (ends ++ end_of k p ∷ [])
keeps_begun k p NoLink kept = Lives kept NoLink
keeps_begun k p (Over over rest) kept = Over over (keeps_begun k p rest kept)
keeps_begun k p (Lives one rest) kept = Lives one (keeps_begun k p rest kept)

-- ---- where a link is kept

-- the link that is kept here
pub record IsOf (place : ℕ) (e : LinkEnd) (links : LinkList) (ends : List LinkEnd) : Type 0 where
  pub number : ℕ
  pub link : LinkOf TrueSegments
  pub owed : LinkOwed
  pub at : At link owed number place links ends
  pub is : end_of link owed ≡ e

pub kept_of : {links : LinkList} {ends : List LinkEnd} (place : ℕ) (e : LinkEnd) → Keeps links ends → slice_get ends place ≡ Some e →
    IsOf place e links ends
kept_of place e NoLink there = absurd cc
kept_of place e (Over over rest) there =
    let k = kept_of place e rest there in
    record { number = suc k.number; link = k.link; owed = k.owed; at = BehindOver over k.at; is = k.is }
kept_of zero e (Lives {l = l} {o = o} one rest) there =
    record { number = 0; link = l; owed = o; at = Here one rest; is = same_Some (end_of l o) e there }
kept_of (suc place) e (Lives one rest) there =
    let k = kept_of place e rest there in
    record { number = suc k.number; link = k.link; owed = k.owed; at = BehindOne one k.at; is = k.is }

-- ---- look-ups

-- tests that no link passes which is over
abbrev pub NeedsLife : LinkTest → Type 0
NeedsLife test = (port : Port) → passes test port ≡ true → is_live port.phase ≡ true

pub live_at_lives : (own : ℕ) → NeedsLife (LiveAt own)
live_at_lives own port e = (and_parts (is_live port.phase) (is_at port.own own) e).0

pub the_link_lives : (own far : ℕ) → NeedsLife (TheLink own far)
the_link_lives own far port e = (and_parts (is_live port.phase) (has_both port own far) e).0

pub live_to_lives : (far : ℕ) → NeedsLife (LiveTo far)
live_to_lives far port e = (and_parts (is_live port.phase) (is_at port.far far) e).0

pub calling_at_lives : (own : ℕ) → NeedsLife (CallingAt own)
calling_at_lives own port e = ap is_live (calling_is port.phase (and_parts (is_calling port.phase) (is_at port.own own) e).0)

pub called_by_lives : (far : ℕ) → NeedsLife (CalledBy far)
called_by_lives far port e = ap is_live (called_is port.phase (and_parts (is_called port.phase) (is_at port.far far) e).0)

pub acted_on_lives : (own far : ℕ) → NeedsLife (ActedOn own far)
acted_on_lives own far port e =
    let p = (and_parts (is_connected port.phase) (has_both port own far) e).0 in (connected_when port.phase (connected_is port.phase p)).1

module _ (test : LinkTest) (needs : NeedsLife test) where
  abbrev of_end : LinkEnd → Bool
  of_end e = passes test e.port

  abbrev of_link : LinkOf TrueSegments → Bool
  of_link l = passes test l.port

  -- where no link is found none is found among those that are kept; and where one is, it is found at its place
  data FoundAt (links : LinkList) (ends : List LinkEnd) : Option ℕ → Type 0 where
    Nowhere : position of_end ends ≡ None → FoundAt links ends None
    There : {n place : ℕ} {l : LinkOf TrueSegments} {o : LinkOwed} → At l o n place links ends → position of_end ends ≡ Some place →
        FoundAt links ends (Some n)

  -- behind a link that does not pass
  further : {links : LinkList} {ends : List LinkEnd} {k : LinkOf TrueSegments} {found : Option ℕ} → is_live k.port.phase ≡ false →
      FoundAt links ends found → FoundAt (k ∷ links) ends (option_map suc found)
  further over (Nowhere e) = Nowhere e
  further over (There at e) = There (BehindOver over at) e

  further_one : {links : LinkList} {ends : List LinkEnd} (k : LinkOf TrueSegments) (p : LinkOwed) {found : Option ℕ} → IsKept k p →
      passes test k.port ≡ false → FoundAt links ends found → FoundAt (k ∷ links) (end_of k p ∷ ends) (option_map suc found)
  further_one {ends = ends} k p one fails (Nowhere e) = Nowhere (position_later of_end (end_of k p) ends fails ∙ ap (option_map suc) e)
  further_one {ends = ends} k p one fails (There at e) =
      There (BehindOne one at) (position_later of_end (end_of k p) ends fails ∙ ap (option_map suc) e)

  found_at_place : {links : LinkList} {ends : List LinkEnd} → Keeps links ends → FoundAt links ends (position of_link links)
  found_at_place NoLink = Nowhere refl
  found_at_place (Over {l = k} {links = links} {ends = ends} over rest) =
      rw (position_later of_link k links (false_from_ne_true (passes test k.port) (λ e. let f = sym over ∙ needs k.port e in cc)))
      (further over (found_at_place rest))
  found_at_place (Lives {l = k} {o = p} {links = links} {ends = ends} one rest) = go (passes test k.port) refl (found_at_place rest)
    where
      go : (b : Bool) → passes test k.port ≡ b → FoundAt links ends (position of_link links) →
          FoundAt (k ∷ links) (end_of k p ∷ ends) (position of_link (k ∷ links))
      go true e later = rw (position_here of_link k links e) (There (Here one rest) (position_here of_end (end_of k p) ends e))
      go false e later = rw (position_later of_link k links e) (further_one k p one e later)

  -- what holds in both cases of a look-up among all links and of that among those that are kept holds of what they come to
  pub look_both : {R T : Type 0} (P : R → T → Type 0) (s : Links) (kept : StoredLinks) → Keeps s.links kept.links →
      (none : R) (one : ℕ → LinkOf TrueSegments → R) (none_kept : T) (one_kept : ℕ → LinkEnd → T) → (number_of test s ≡ None → P none none_kept) →
      ((n place : ℕ) (l : LinkOf TrueSegments) (o : LinkOwed) → IsFound test s n l → At l o n place s.links kept.links →
      P (one n l) (one_kept place (end_of l o))) →
      P (with_link test s none one) (with_end test kept none_kept one_kept)
  look_both P s kept keeps none one none_kept one_kept missing found = go (number_of test s) refl (found_at_place keeps)
    where
      go : (o : Option ℕ) → number_of test s ≡ o → FoundAt s.links kept.links o →
          P (at_number s.links o none one) (with_end test kept none_kept one_kept)
      go None is (Nowhere e) = subst (λ (o : Option ℕ). P none (at_place kept.links o none_kept one_kept)) (sym e) (missing is)
      go (Some n) is (There {place = place} {l = l} {o = o} at e) = rw (link_there at, e, kept_there at) (found n place l o (record {
        found = is;
        there = link_there at;
        passed = position_passes of_link s.links n l is (link_there at);
      }) at)

  -- of the look-up among those that are kept alone
  pub look : {R : Type 0} (P : R → Type 0) (s : Links) (kept : StoredLinks) → Keeps s.links kept.links → (otherwise : R) (next : ℕ → LinkEnd → R) →
      (number_of test s ≡ None → P otherwise) →
      ((n place : ℕ) (l : LinkOf TrueSegments) (o : LinkOwed) → IsFound test s n l → At l o n place s.links kept.links →
      P (next place (end_of l o))) →
      P (with_end test kept otherwise next)
  look {R} P s kept keeps otherwise next = look_both {R = ℕ} (λ r x. P x) s kept keeps 0 (λ number link. 0) otherwise next
