-- What holds of the links of an end of the player is kept by each thing that happens: each that lives is kept and fits, what it owes goes with it,
-- and each DC names a link that is over.
use Rattle.dna_play.proofs.Prelude.{◌≡◌, ℕ, ◌+◌, ◌<◌, ◌≤◌, ◌^◌, true, false, Some, List, [], ◌∷◌, map, drop, refl, sym, subst, ◌∙◌, arith}
use Rattle.dna_play.proofs.Prelude.{slice_get, slice_get-drop, is_live, LinkOf, begun, changed, booted, booted_link, Without, TrueSegments}
use Rattle.dna_play.proofs.Prelude.{true_segments, Links, LinkOwed, EndConfirm, StoredLinks, no_stored_links, all_pushed, all_set, LinkList}
use Rattle.dna_play.specs.StoredLinks as keeping
use Rattle.dna_play.proofs.{Links.Lists.set_back, Links.Pays.OwedFits, Links.Pays.end_of, Links.Confirms.IsDone, Links.Confirms.IsPast}
use Rattle.dna_play.proofs.Links.Goes.{Goes, segments_go, stays_as_it_is}
use Rattle.dna_play.proofs.Links.Keeps.{Keeps, NoLink, Over, At, IsKept, is_kept, link_there, keeps_set, keeps_no_more, keeps_begun}

-- its addresses and its reason are words
pub record IsSmall (confirm : EndConfirm) : Type 0 where
  pub dst : confirm.dst < 2 ^ 16
  pub src : confirm.src < 2 ^ 16
  pub reason : confirm.reason < 2 ^ 16

-- a DC that is owed
pub record ConfirmHolds (links : LinkList) (most : ℕ) (confirm : EndConfirm) : Type 0 where
  pub done : IsDone links most confirm
  pub small : IsSmall confirm
  -- the link that it names had an address
  pub some : 1 ≤ confirm.src

abbrev pub AllConfirms : LinkList → ℕ → List EndConfirm → Type 0
AllConfirms links most confirms = (i : ℕ) (confirm : EndConfirm) → slice_get confirms i ≡ Some confirm → ConfirmHolds links most confirm

pub record LinkHolds (links : LinkList) (most : ℕ) (kept : StoredLinks) : Type 0 where
  pub keeps : Keeps links kept.links
  pub confirms : AllConfirms links most kept.confirms

-- after a boot none lives, and nothing is kept
keeps_none : (links : LinkList) → Keeps (map (booted_link true_segments Without) links) []
keeps_none [] = NoLink
keeps_none (l ∷ links) = Over refl (keeps_none links)

pub booted_holds : (s : Links) → LinkHolds (booted true_segments Without s).links 0 no_stored_links
booted_holds s = record { keeps = keeps_none s.links; confirms = λ i confirm at. absurd cc }

module _ (s : Links) (most : ℕ) (kept : StoredLinks) (h : LinkHolds s.links most kept) where
  confirms_left : (left : LinkList) (top : ℕ) → most ≤ top →
      ((confirm : EndConfirm) → IsDone s.links most confirm → (j : ℕ) (m : LinkOf TrueSegments) → slice_get left j ≡ Some m → IsPast confirm m) →
      AllConfirms left top kept.confirms
  confirms_left left top less past i confirm at = let c = h.confirms i confirm at in let given = c.done.given in
      record { done = record { given = omega arith; over = past confirm c.done }; small = c.small; some = c.some }

  -- a new link begins
  pub push_holds : (k : LinkOf TrueSegments) (p : LinkOwed) (top : ℕ) → most ≤ top → IsKept k p →
      ((confirm : EndConfirm) → confirm.src ≤ most → IsPast confirm k) → LinkHolds (begun k s).links top (keeping.begun (end_of k p) kept)
  push_holds k p top less fits past = record {
    keeps = keeps_begun k p h.keeps fits;
    confirms = confirms_left (begun k s).links top less
        (λ confirm d. all_pushed (λ j m. IsPast confirm m) s.links k (past confirm d.given) d.over);
  }

  -- the oldest DC is sent, and one more is owed
  pub first_sent_holds : LinkHolds s.links most (record kept { confirms = drop 1 kept.confirms })
  first_sent_holds = record { keeps = h.keeps; confirms = λ i c at. h.confirms (1 + i) c (sym (slice_get-drop 1 i kept.confirms) ∙ at) }

  pub confirming_holds : (dst src reason : ℕ) → ConfirmHolds s.links most (record { dst = dst; src = src; reason = reason }) →
      LinkHolds s.links most (keeping.confirming dst src reason kept)
  confirming_holds dst src reason c = record {
    keeps = h.keeps;
    confirms = all_pushed (λ i c. ConfirmHolds s.links most c) kept.confirms (record { dst = dst; src = src; reason = reason }) c h.confirms;
  }

  module _ {n place : ℕ} {l : LinkOf TrueSegments} {o : LinkOwed} (at : At l o n place s.links kept.links) where
    confirms_set : (k : LinkOf TrueSegments) (top : ℕ) → most ≤ top → Goes most l k → AllConfirms (changed n k s).links top kept.confirms
    confirms_set k top less goes = confirms_left (changed n k s).links top less (λ confirm d.
        all_set (λ j m. IsPast confirm m) s.links n k (goes.past confirm d.given (d.over n l (link_there at))) d.over)

    -- a link changes, with what it owes
    pub set_holds : (k : LinkOf TrueSegments) (p : LinkOwed) (top : ℕ) → most ≤ top → Goes most l k → is_live k.port.phase ≡ true → OwedFits k p →
        LinkHolds (changed n k s).links top (keeping.changed place (end_of k p) kept)
    set_holds k p top less goes lives owes = record {
      keeps = keeps_set k p at (record { lives = lives; fits = goes.fits (is_kept at).fits; owes = owes });
      confirms = confirms_set k top less goes;
    }

    -- it is over
    pub end_holds : (k : LinkOf TrueSegments) → Goes most l k → is_live k.port.phase ≡ false →
        LinkHolds (changed n k s).links most (keeping.ended place kept)
    end_holds k goes over = record { keeps = keeps_no_more k at over; confirms = confirms_set k most (omega arith) goes }

    -- nothing changes but what it owes
    pub owed_holds : (p : LinkOwed) → OwedFits l p → LinkHolds s.links most (keeping.changed place (end_of l p) kept)
    owed_holds p owes = subst (λ (links : LinkList). LinkHolds links most (keeping.changed place (end_of l p) kept))
        (set_back s.links n l (link_there at))
        (set_holds l p most (omega arith) (segments_go most l l.segments (stays_as_it_is l.segments)) (is_kept at).lives owes)
