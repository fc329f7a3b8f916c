-- What a receipt makes whole the user gets at once: each delivery that follows it is made.
use Rattle.dna_play.proofs.Prelude.{◌≡◌, ℕ, ◌+◌, Bool, true, false, cond, Option, Some, None, List, [], ◌∷◌, ◌++◌, drop, refl, sym, ap, ◌∙◌}
use Rattle.dna_play.proofs.Prelude.{append_assoc, ap₂, suc-eq-add-one, drop-drop, bytes_eq-Decides, NspValue, DataSegment, User, ActedOn, Piece}
use Rattle.dna_play.proofs.Prelude.{Whole, with_piece, next_message, LinkOf, TrueSegments, delivers, Links, in_whole_messages, Splits, splits}
use Rattle.dna_play.proofs.Prelude.{has_line, complete, IsFound, LinkList, OwnsIn}
use Rattle.capture_record.specs.declared.event.Event.TheVariants as events
use Rattle.dna_play.proofs.Links.Pays as owing
use Rattle.dna_play.proofs.Links.Pays.{found_at, with_found}

-- ---- the first message that is whole is the next one, and the others are whole behind it

drop_more : {X : Type 0} (n : ℕ) (x : X) (xs : List X) → drop (n + 1) (x ∷ xs) ≡ drop n xs
drop_more n x xs = ap (λ (k : ℕ). drop k (x ∷ xs)) (sym (suc-eq-add-one n))

abbrev from_next : (begun : List ℕ) → List (Option Piece) → Option Whole → List (List ℕ)
from_next begun pieces None = []
from_next begun pieces (Some w) = (begun ++ w.message) ∷ complete [] (drop w.pieces pieces)

complete_next : (begun : List ℕ) (pieces : List (Option Piece)) → complete begun pieces ≡ from_next begun pieces (next_message pieces)
complete_next begun [] = refl
complete_next begun (None ∷ later) = refl
complete_next begun (Some p ∷ later) = go p.ends (next_message later) (complete_next (begun ++ p.body) later)
  where
    go : (b : Bool) (o : Option Whole) → complete (begun ++ p.body) later ≡ from_next (begun ++ p.body) later o →
        cond b ((begun ++ p.body) ∷ complete [] later) (complete (begun ++ p.body) later)
        ≡ from_next begun (Some p ∷ later) (cond b (Some (record { pieces = 1; message = p.body })) (with_piece p o))
    go true o e = refl
    go false None e = e
    go false (Some v) e = e ∙ ap₂ (λ (message : List ℕ) (rest : List (Option Piece)). message ∷ complete [] rest)
        (append_assoc begun p.body v.message) (sym (drop_more v.pieces (Some p) later))

-- where nothing is whole no piece is in a whole message
pub none_whole : (pieces : List (Option Piece)) → complete [] pieces ≡ [] → in_whole_messages pieces ≡ 0
none_whole pieces e = go (next_message pieces) (splits pieces) (sym (complete_next [] pieces) ∙ e)
  where
    go : (o : Option Whole) → Splits pieces o → from_next [] pieces o ≡ [] → in_whole_messages pieces ≡ 0
    go None none e = none
    go (Some w) split e = absurd cc

-- the segments after this message is delivered, which came in so many pieces
abbrev pub delivering : List ℕ → Whole → TrueSegments → TrueSegments
delivering message w f = record f { delivered = f.delivered ++ message ∷ []; passed = f.passed + w.pieces }

-- where this is the first whole message, it is delivered
pub record DeliversNext (f : TrueSegments) (message : List ℕ) (rest : List (List ℕ)) : Type 0 where
  pub w : Whole
  pub counted : in_whole_messages (drop f.passed f.received) ≡ w.pieces + in_whole_messages (drop w.pieces (drop f.passed f.received))
  pub does : delivers message f ≡ Some (delivering message w f)
  pub left : complete [] (drop (f.passed + w.pieces) f.received) ≡ rest

pub delivers_next : (f : TrueSegments) (message : List ℕ) (rest : List (List ℕ)) → complete [] (drop f.passed f.received) ≡ message ∷ rest →
    DeliversNext f message rest
delivers_next f message rest e = go (next_message (drop f.passed f.received)) refl (splits (drop f.passed f.received))
    (sym (complete_next [] (drop f.passed f.received)) ∙ e)
  where
    go : (o : Option Whole) → next_message (drop f.passed f.received) ≡ o → Splits (drop f.passed f.received) o →
        from_next [] (drop f.passed f.received) o ≡ message ∷ rest → DeliversNext f message rest
    go None is split e = absurd cc
    go (Some w) is split e = let same : w.message ≡ message = cc in record {
      w = w;
      counted = split.1;
      does = rw (is, (bytes_eq-Decides message w.message).1 (sym same), same) refl;
      left = ap (complete []) (sym (drop-drop w.pieces f.passed f.received)) ∙ cc;
    }

-- each has a line
abbrev pub AllLined : (address : ℕ) → List (List ℕ) → Type 0
AllLined address [] = Unit {0}
AllLined address (message ∷ later) = (has_line (User (events.Up address message)) ≡ true) × AllLined address later

-- ---- what is whole

-- no two links have the same own address
abbrev pub AreDistinct : LinkList → Type 0
AreDistinct links = (i j a : ℕ) → OwnsIn links i a → OwnsIn links j a → i ≡ j

-- what is whole of the link that a segment is for has lines
abbrev pub IsLined : Links → NspValue → Type 0
IsLined s (DataSegment segment) = (number : ℕ) (link : LinkOf TrueSegments) → IsFound (ActedOn segment.dstaddr segment.srcaddr) s number link →
    AllLined segment.dstaddr (complete [] (owing.variables_of link).pieces)
IsLined s m = Unit {0}
