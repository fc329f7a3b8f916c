-- A message that is delivered, by the pieces that it came in.
use Rattle.std.proofs.Common.{◌≡◌, ℕ, ◌+◌, ◌≤◌, Bool, true, false, cond, Option, Some, None, List, [], ◌∷◌, length, Ok, Err, Result, refl, ap, arith}
use Rattle.std.specs.Str.{bytes_eq}
use Rattle.dna_links.specs.Segmentation.{Piece, Whole, in_order, next_message, with_piece}
use Rattle.link_segments.specs.Received.{pieces_if, pieces_of, delivered_pieces, next_length}
use Rattle.nsp_link.specs.FailedEvent.{asked_delivery, is_whole, whole_pieces}
use Rattle.nsp_link.specs.FailedSending.{unless}
use Rattle.nsp_link.specs.declared.failed.FailedLinkEvent.{FailedLinkEvent}
use Rattle.nsp_link.specs.declared.failed.FailedLinkEvent.TheVariants.{Delivery}
use Rattle.nsp_link.specs.declared.permit.LinkUserPermit.{LinkUserPermit}
use Rattle.nsp_link.specs.declared.permit.LinkUserPermit.TheVariants.{Delivers}

-- ---- a whole message has some pieces, and no more than come before the first that is missing

data IsWithin : Option Whole → ℕ → Type 0 where
  NoWhole : (count : ℕ) → IsWithin None count
  Within : (w : Whole) (count : ℕ) → 1 ≤ w.pieces → w.pieces ≤ count → IsWithin (Some w) count

one_more : (p : Piece) (o : Option Whole) (count : ℕ) → IsWithin o count → IsWithin (with_piece p o) (1 + count)
one_more p None count h = NoWhole (1 + count)
one_more p (Some w) count (Within _ _ some h) = Within _ (1 + count) (omega arith) (omega arith)

by_end : (p : Piece) (b : Bool) (o : Option Whole) (count : ℕ) → IsWithin o count →
    IsWithin (cond b (Some (record { pieces = 1; message = p.body })) (with_piece p o)) (1 + count)
by_end p true o count h = Within _ (1 + count) (omega arith) (omega arith)
by_end p false o count h = one_more p o count h

whole_within : (xs : List (Option Piece)) → IsWithin (next_message xs) (in_order xs)
whole_within [] = NoWhole _
whole_within (None ∷ xs) = NoWhole _
whole_within (Some p ∷ xs) = by_end p p.ends (next_message xs) (in_order xs) (whole_within xs)

within_by : (o : Option Whole) (count : ℕ) (w : Whole) → IsWithin o count → o ≡ Some w → (1 ≤ w.pieces) × (w.pieces ≤ count)
within_by None count w h e = absurd (cc)
within_by (Some v) count w (Within _ _ some few) e =
    let same : v.pieces ≡ w.pieces = cc in
    (omega arith, omega arith)

pub pieces_within : (xs : List (Option Piece)) (w : Whole) → next_message xs ≡ Some w → (1 ≤ w.pieces) × (w.pieces ≤ in_order xs)
pieces_within xs w e = within_by (next_message xs) (in_order xs) w (whole_within xs) e

-- ---- whether it is delivered

module _ (link : ℕ) (message : List ℕ) (failed : FailedLinkEvent) where
  abbrev asked : Option Whole → Result LinkUserPermit FailedLinkEvent
  asked o = unless (is_whole message o) failed (Ok (Delivers link (whole_pieces o)))

  asked_some : (o : Option Whole) (n : ℕ) → pieces_of message o ≡ Some n → asked o ≡ Ok (Delivers link n)
  asked_some None n e = absurd (cc)
  asked_some (Some w) n e = by_same (bytes_eq message w.message) e where
    by_same : (b : Bool) → pieces_if b w.pieces ≡ Some n → unless b failed (Ok (Delivers link w.pieces)) ≡ Ok (Delivers link n)
    by_same true same = let is : w.pieces ≡ n = cc in ap (λ (k : ℕ). Ok (Delivers link k)) is
    by_same false same = absurd (cc)

  asked_none : (o : Option Whole) → pieces_of message o ≡ None → asked o ≡ Err failed
  asked_none None e = refl
  asked_none (Some w) e = by_same (bytes_eq message w.message) e where
    by_same : (b : Bool) → pieces_if b w.pieces ≡ None → unless b failed (Ok (Delivers link w.pieces)) ≡ Err failed
    by_same true same = absurd (cc)
    by_same false same = refl

module _ (link : ℕ) (message : List ℕ) (pieces : List (Option Piece)) where
  abbrev refused : FailedLinkEvent
  refused = Delivery link (length message) (next_length pieces)

  pub delivers_some : (n : ℕ) → delivered_pieces message pieces ≡ Some n → asked_delivery link message pieces ≡ Ok (Delivers link n)
  delivers_some n e = asked_some link message refused (next_message pieces) n e

  pub delivers_none : delivered_pieces message pieces ≡ None →
      asked_delivery link message pieces ≡ Err (Delivery link (length message) (next_length pieces))
  delivers_none e = asked_none link message refused (next_message pieces) e

pub ruleset delivery = (delivers_some, delivers_none)
