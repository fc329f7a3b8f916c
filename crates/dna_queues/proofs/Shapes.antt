-- What a sending changes of a link of the machine.
use Rattle.dna_queues.proofs.Prelude.{◌≡◌, ℕ, true, false, refl, NspValue, DataSegment, LinkService, DataAck, OtherDataAck, ConnectAck, NoOperation}
use Rattle.dna_queues.proofs.Prelude.{DisconnectInitiate, DisconnectConfirm, Said, Nothing, OfRun, Disconnect, wider, is_silent, is_over, further}
use Rattle.dna_queues.proofs.Prelude.{TrueSegments, went_on}
use Rattle.dna_queues.proofs.Goes.{Link, Goes, said_as}
use Rattle.dna_queues.proofs.Delivered.{Leaves, late_still, acks_still}

pub record Shape (l x : Link) : Type 0 where
  pub segments : TrueSegments
  pub said : Said
  pub gap : ℕ
  pub is : x ≡ record l { segments = segments; queue = record l.queue { said = said; gap = gap } }
  pub leaves : Leaves l.segments segments
  pub loud : is_silent l.queue.said ≡ false → is_silent said ≡ false
  pub over : is_over l.queue.said ≡ true → is_over said ≡ true

louder : (a s : Said) → is_silent s ≡ false → is_silent (further a s) ≡ false
louder Nothing s e = e
louder OfRun Nothing e = refl
louder OfRun OfRun e = refl
louder OfRun Disconnect e = refl
louder Disconnect s e = refl

over_still : (a s : Said) → is_over s ≡ true → is_over (further a s) ≡ true
over_still Nothing s e = e
over_still OfRun Disconnect e = refl
over_still OfRun Nothing e = absurd cc
over_still OfRun OfRun e = absurd cc
over_still Disconnect s e = refl

still_shape : (l x : Link) → x ≡ l → Shape l x
still_shape l x is = record {
  segments = l.segments;
  said = l.queue.said;
  gap = l.queue.gap;
  is = is;
  leaves = record { received = refl; delivered = refl; passed = refl };
  loud = λ e. e;
  over = λ e. e;
}

said_shape : (l x : Link) (said : Said) (f : TrueSegments) (gap : ℕ) → Leaves l.segments f →
    x ≡ said_as said (record l { segments = f; queue = record l.queue { gap = gap } }) → Shape l x
said_shape l x said f gap leaves is = record {
  segments = f;
  said = further said l.queue.said;
  gap = gap;
  is = is;
  leaves = leaves;
  loud = louder said l.queue.said;
  over = over_still said l.queue.said;
}

said_only : (l x : Link) (said : Said) → x ≡ said_as said l → Shape l x
said_only l x said is = said_shape l x said l.segments l.queue.gap (record { received = refl; delivered = refl; passed = refl }) is

pub goes_shape : (l x : Link) (m : NspValue) → Goes l m x → Shape l x
goes_shape l x (ConnectAck dst) g = still_shape l x g.moves
goes_shape l x (DisconnectInitiate dst src reason user_data) g = said_only l x Disconnect g.moves.1
goes_shape l x (DisconnectConfirm dst src reason) g = absurd g.moves
goes_shape l x (DataSegment segment) g =
    let m = g.moves in
    said_shape l x OfRun m.late.sent.segments m.late.gap (late_still l.queue.gap l.segsize segment l.segments m.late m.does).leaves m.is
goes_shape l x (DataAck dst src acks) g =
    let m = g.moves in
    said_shape l x OfRun m.sent.segments (wider l.queue.gap (went_on l.segments m.sent.segments))
    (acks_still acks l.segments m.sent m.does).leaves m.is
goes_shape l x (LinkService interrupt dst src rest) g = said_only l x OfRun g.moves.1
goes_shape l x (OtherDataAck dst src rest) g = said_only l x OfRun g.moves.1
goes_shape l x (NoOperation rest) g = absurd g.moves
goes_shape l x m g = still_shape l x g.moves.1
