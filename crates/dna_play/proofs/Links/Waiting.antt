-- How many pieces wait at the links that an end keeps: what comes adds at most one, each message that is whole then takes at least one, and nothing
-- else adds any.
use Rattle.dna_play.proofs.Prelude.{◌≡◌, ℕ, zero, suc, ◌+◌, ◌≤◌, Bool, true, false, cond, ◌&&◌, nat_le, Option, Some, None, List, [], ◌∷◌, ◌++◌}
use Rattle.dna_play.proofs.Prelude.{length, refl, ap, ◌∙◌, arith, drop, slice_get, slice_set, remove, AckWord, NspValue, SegmentValue, DataSegment}
use Rattle.dna_play.proofs.Prelude.{ActedOn, REACH, distance, Piece, piece_of, hold, in_whole_messages, one_more, LinkVariables, acknowledged_by}
use Rattle.dna_play.proofs.Prelude.{acknowledged_by_all, acknowledged_to, held, segment_taken, with_pieces, Duty, SegmentDuty, LinkEnd, Choice}
use Rattle.dna_play.proofs.Prelude.{SendNew, Confirms, OfLink, complete, StoredLinks, Delivering, called, delivering_none, duty_sent, gave, gave_by}
use Rattle.dna_play.proofs.Prelude.{message_came, sent_at, took_segment, without_whole, arrived}
use Rattle.dna_play.specs.StoredLinks.{changed}
use Rattle.dna_play.specs.StoredPlay.{links_sent}
use Rattle.dna_play.proofs.Links.Looked.{came, looked}

-- ---- pieces

-- how many are there
abbrev filled : List (Option Piece) → ℕ
filled [] = 0
filled (None ∷ later) = filled later
filled (Some p ∷ later) = filled later + 1

held_fills : (place : ℕ) (p : Piece) (pieces : List (Option Piece)) → filled (hold place p pieces) ≤ filled pieces + 1
held_fills zero p [] = omega arith
held_fills zero p (None ∷ later) = omega arith
held_fills zero p (Some held ∷ later) = omega arith
held_fills (suc place) p [] = held_fills place p []
held_fills (suc place) p (None ∷ later) = held_fills place p later
held_fills (suc place) p (Some held ∷ later) = let l = held_fills place p later in omega arith

-- each message that is whole takes at least one
whole_takes : (begun : List ℕ) (pieces : List (Option Piece)) →
    length (complete begun pieces) + filled (drop (in_whole_messages pieces) pieces) ≤ filled pieces
whole_takes begun [] = omega arith
whole_takes begun (None ∷ later) = omega arith
whole_takes begun (Some p ∷ later) = go p.ends (whole_takes [] later) (whole_takes (begun ++ p.body) later)
  where
    behind : (n k : ℕ) → n ≡ suc k → filled (drop n (Some p ∷ later)) ≡ filled (drop k later)
    behind n k e = ap (λ (n : ℕ). filled (drop n (Some p ∷ later))) e

    more : (n messages : ℕ) → messages + filled (drop n later) ≤ filled later →
        messages + filled (drop (one_more n) (Some p ∷ later)) ≤ filled later + 1
    more zero messages l = omega arith
    more (suc n) messages l = let e = behind (n + 2) (suc n) (omega arith) in omega arith

    go : (b : Bool) → length (complete [] later) + filled (drop (in_whole_messages later) later) ≤ filled later →
        length (complete (begun ++ p.body) later) + filled (drop (in_whole_messages later) later) ≤ filled later →
        length (cond b ((begun ++ p.body) ∷ complete [] later) (complete (begun ++ p.body) later))
        + filled (drop (cond b (in_whole_messages later + 1) (one_more (in_whole_messages later))) (Some p ∷ later)) ≤ filled later + 1
    go true ends goes_on = let e = behind (in_whole_messages later + 1) (in_whole_messages later) (omega arith) in omega arith
    go false ends goes_on = more (in_whole_messages later) (length (complete (begun ++ p.body) later)) goes_on

-- ---- one link

abbrev pub wait : LinkEnd → ℕ
wait link = filled link.variables.pieces

acks_wait : (words : List AckWord) (k : LinkVariables) → filled (acknowledged_by_all words k).pieces ≡ filled k.pieces
acks_wait [] k = refl
acks_wait (word ∷ words) k = acks_wait words (acknowledged_by k word) ∙ one _
  where
    one : (b : Bool) → filled (acknowledged_to b k word.number).pieces ≡ filled k.pieces
    one true = refl
    one false = refl

with_segment_waits : (b : Bool) (above : ℕ) (p : Piece) (k : LinkVariables) →
    filled (cond b (with_pieces (held above p k) k) k).pieces ≤ filled k.pieces + 1
with_segment_waits true above p k = held_fills _ p k.pieces
with_segment_waits false above p k = omega arith

segment_waits : (s : SegmentValue) (k : LinkVariables) → filled (segment_taken s (acknowledged_by_all s.acks k)).pieces ≤ filled k.pieces + 1
segment_waits s k =
    let after = acknowledged_by_all s.acks k in let above = distance after.received s.number in let e = acks_wait s.acks k in
    let l = with_segment_waits (nat_le 1 above && nat_le above REACH) above (piece_of s) after in
    omega arith

gave_waits : (o : Option Piece) (link : LinkEnd) → wait (gave o link) ≡ wait link
gave_waits None link = refl
gave_waits (Some again) link = refl

duty_waits : (duty : Duty) (link : LinkEnd) → wait (gave_by duty link) ≡ wait link
duty_waits SegmentDuty link = gave_waits (slice_get link.variables.outstanding link.owed.ahead) link
duty_waits duty link = refl

-- ---- all links

abbrev pub waiting : List LinkEnd → ℕ
waiting [] = 0
waiting (link ∷ links) = wait link + waiting links

pub fewer_wait : (links : List LinkEnd) (place : ℕ) → waiting (remove links place) ≤ waiting links
fewer_wait [] zero = omega arith
fewer_wait [] (suc place) = omega arith
fewer_wait (link ∷ links) zero = omega arith
fewer_wait (link ∷ links) (suc place) = let l = fewer_wait links place in omega arith

set_waits : (links : List LinkEnd) (place : ℕ) (link after : LinkEnd) → slice_get links place ≡ Some link →
    waiting (slice_set links place after) + wait link ≡ waiting links + wait after
set_waits [] place link after at = absurd cc
set_waits (first ∷ links) zero link after at = let same : first ≡ link = cc in let e : wait first ≡ wait link = ap wait same in omega arith
set_waits (first ∷ links) (suc place) link after at = let e = set_waits links place link after at in omega arith

pub begun_waits : (links : List LinkEnd) (link : LinkEnd) → wait link ≡ 0 → waiting (links ++ link ∷ []) ≤ waiting links
begun_waits [] link none = omega arith
begun_waits (first ∷ links) link none = let l = begun_waits links link none in omega arith

module _ (s : StoredLinks) where
  abbrev pub NoMore : StoredLinks → Type 0
  NoMore after = waiting after.links ≤ waiting s.links

  pub changed_waits : (place : ℕ) (link after : LinkEnd) → slice_get s.links place ≡ Some link → wait after ≡ wait link →
      NoMore (changed place after s)
  changed_waits place link after at same = let e = set_waits s.links place link after at in omega arith

  -- ---- a message is sent

  sent_waits : (place : ℕ) (duty : Duty) (o : Option LinkEnd) → slice_get s.links place ≡ o → NoMore (sent_at place o duty s)
  sent_waits place duty None at = omega arith
  sent_waits place duty (Some link) at = changed_waits place link (duty_sent duty link) at (duty_waits duty link)

  pub choice_waits : (next : Choice) → NoMore (links_sent next s)
  choice_waits (SendNew (Confirms confirm)) = omega arith
  choice_waits (SendNew (OfLink place duty)) = sent_waits place duty (slice_get s.links place) refl
  choice_waits next = omega arith

  -- ---- a message comes

  came_waits : (m : NspValue) → NoMore (message_came m s)
  came_waits m = came (λ (links : List LinkEnd). waiting links ≤ waiting s.links) s (omega arith) (λ far. begun_waits s.links (called far) refl)
      (fewer_wait s.links) (λ place link after at words own took.
      changed_waits place link after at (ap (λ (k : LinkVariables). filled k.pieces) took ∙ acks_wait words link.variables)) m

  -- with the messages that are delivered at most one more
  abbrev OneMore : Delivering → Type 0
  OneMore d = length d.messages + waiting d.links.links ≤ waiting s.links + 1

  pub arrived_waits : (o : Option NspValue) → OneMore (arrived o s)
  arrived_waits None = omega arith
  arrived_waits (Some (DataSegment segment)) =
      looked OneMore (ActedOn segment.dstaddr segment.srcaddr) s (delivering_none s) _ (omega arith) (λ place link at passed.
      let taken = segment_waits segment link.variables in
      let whole = whole_takes [] (took_segment segment link).variables.pieces in
      let e = set_waits s.links place link (without_whole (took_segment segment link)) at in
      omega arith)
  arrived_waits (Some m) = let l = came_waits m in omega arith
