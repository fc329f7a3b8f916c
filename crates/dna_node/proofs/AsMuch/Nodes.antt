-- Where a machine makes whatever another one makes, in states that stand beside each other, two nodes over it make each run of two over the other.
use Rattle.std.proofs.Common.{◌≡◌, ℕ, ◌+◌, Bool, true, false, cond, nat_lt, Option, Some, None, Result, Ok, Err, List, ap, subst}
use Rattle.std.specs.Prelude.{slice_get}
use Rattle.two_nodes.specs.Nodes.{Half, World, Outcome, Run, answered, concluded, read, advance}
use Rattle.two_nodes.specs.Nodes.Outcome.{Made, Waits, Refused}
use Rattle.two_nodes.specs.Nodes.Run.{Done, OfA, OfB}
use Rattle.ddcmp_msg.specs.Message.{MessageValue}
use Rattle.ddcmp_msg.specs.Reading.{ReadingValue, reading}
use Rattle.ddcmp_msg.specs.Reading as read_as
use Rattle.capture_record.specs.declared.fate.Fate.{Fate}
use Rattle.capture_record.specs.declared.fate.Fate.TheVariants.{NotKept}
use Rattle.capture_record.specs.declared.record.Record.{Record}
use Rattle.capture_record.specs.declared.record.Record.TheVariants.{Sent, Received, Noise, User}
use Rattle.capture_record.specs.declared.event.Event.{Event}
use Rattle.dna_station.specs.declared.refusal.StepRefusal.{StepRefusal}
use Rattle.dna_station.specs.declared.refusal.StepRefusal.TheVariants.{HintOrder}
use Rattle.dna_station.specs.Book.{ArrivalValue}
use Rattle.dna_station.specs.Line.{UnitOf, damage, coming}
use Rattle.dna_station.specs.Machine.{Machine, NodeOf, does, sends, met, comes, receives, sent_step, noise_comes, step, pair_of}

-- ---- machines

module _ {S : Type 0} (Beside : S → S → Type 0) where
  -- what is left beside this
  pub record Leaves (s : S) (o : Result S StepRefusal) : Type 0 where
    pub left : S
    pub is : o ≡ Ok left
    pub beside : Beside s left

  pub record LeavesSent {K : Type 0} (after : S × K) (o : Result (S × K) StepRefusal) : Type 0 where
    pub left : S
    pub is : o ≡ Ok (left, after.1)
    pub beside : Beside after.0 left

  -- where the one is made, so is the other
  abbrev pub IsDone : Result S StepRefusal → Result S StepRefusal → Type 0
  IsDone (Ok s) o = Leaves s o
  IsDone (Err refusal) o = Unit {0}

  abbrev pub IsSent : {K : Type 0} → Result (S × K) StepRefusal → Result (S × K) StepRefusal → Type 0
  IsSent (Ok after) o = LeavesSent after o
  IsSent (Err refusal) o = Unit {0}

pub record DoesAsMuch {S K : Type 0} (plain more : Machine S K) (Beside : S → S → Type 0) : Type 0 where
  pub user : (s t : S) → Beside s t → (event : Event) → IsDone Beside (plain.user s event) (more.user t event)
  pub sends : (s t : S) → Beside s t → (m : MessageValue) → IsSent Beside (plain.sends s m) (more.sends t m)
  pub arrives : (s t : S) → Beside s t → (arrival : ArrivalValue K) (fate : Fate) →
      IsDone Beside (plain.arrives s arrival fate) (more.arrives t arrival fate)

-- ---- nodes

module _ {S : Type 0} where
  abbrev pub node_with : NodeOf S → S → NodeOf S
  node_with n t = record { head = n.head; station = t; front = n.front }

module _ {S K : Type 0} where
  abbrev pub half_with : Half (NodeOf S) (UnitOf K) → S → Half (NodeOf S) (UnitOf K)
  half_with half t = record { state = node_with half.state t; sent = half.sent }

  abbrev pub world_with : World (NodeOf S) (UnitOf K) → (a b : S) → World (NodeOf S) (UnitOf K)
  world_with w a b = record { a = half_with w.a a; b = half_with w.b b }

module _ {S K : Type 0} {plain more : Machine S K} {Beside : S → S → Type 0} (as_much : DoesAsMuch plain more Beside) where
  -- this half is made, but for its station
  record MadeWith (half : Half (NodeOf S) (UnitOf K)) (o : Outcome (NodeOf S) (UnitOf K) StepRefusal) : Type 0 where
    left : S
    is : o ≡ Made (half_with half left)
    beside : Beside half.state.station left

  abbrev IsMade : Outcome (NodeOf S) (UnitOf K) StepRefusal → Outcome (NodeOf S) (UnitOf K) StepRefusal → Type 0
  IsMade (Made half) o = MadeWith half o
  IsMade Waits o = Unit {0}
  IsMade (Refused reason) o = Unit {0}

  module _ (own other : Half (NodeOf S) (UnitOf K)) (t u : S) (beside : Beside own.state.station t) where
    abbrev own_with : Half (NodeOf S) (UnitOf K)
    own_with = half_with own t

    abbrev other_with : Half (NodeOf S) (UnitOf K)
    other_with = half_with other u

    does_made : (o o' : Result S StepRefusal) → IsDone Beside o o' →
        IsMade (answered own other (does own.state o)) (answered own_with other_with (does own_with.state o'))
    does_made (Ok s) o' done = record {
      left = done.left;
      is = ap (λ (x : Result S StepRefusal). answered own_with other_with (does own_with.state x)) done.is;
      beside = done.beside;
    }
    does_made (Err refusal) o' done = tt

    sends_made : (bytes : List ℕ) (m : MessageValue) (o o' : Result (S × K) StepRefusal) → IsSent Beside o o' →
        IsMade (answered own other (sends own.state bytes m o)) (answered own_with other_with (sends own_with.state bytes m o'))
    sends_made bytes m (Ok after) o' done = record {
      left = done.left;
      is = ap (λ (x : Result (S × K) StepRefusal). answered own_with other_with (sends own_with.state bytes m x)) done.is;
      beside = done.beside;
    }
    sends_made bytes m (Err refusal) o' done = tt

    sent_made : (bytes : List ℕ) (r : ReadingValue) →
        IsMade (answered own other (sent_step plain own.state bytes r)) (answered own_with other_with (sent_step more own_with.state bytes r))
    sent_made bytes (read_as.Sound m) =
        sends_made bytes m (plain.sends own.state.station m) (more.sends t m) (as_much.sends own.state.station t beside m)
    sent_made bytes bad = tt

    noise_made : (arrival : Option (ArrivalValue K)) →
        IsMade (answered own other (does own.state (noise_comes plain own.state.station arrival)))
        (answered own_with other_with (does own_with.state (noise_comes more t arrival)))
    noise_made None = tt
    noise_made (Some arrival) =
        does_made (plain.arrives own.state.station arrival NotKept) (more.arrives t arrival NotKept)
        (as_much.arrives own.state.station t beside arrival NotKept)

    -- ---- a receipt

    met_made : (front : ℕ) (o o' : Result S StepRefusal) → IsDone Beside o o' →
        IsMade (concluded own (met own.state front o)) (concluded own_with (met own_with.state front o'))
    met_made front (Ok s) o' done = record {
      left = done.left;
      is = ap (λ (x : Result S StepRefusal). concluded own_with (met own_with.state front x)) done.is;
      beside = done.beside;
    }
    met_made front (Err refusal) o' done = tt

    comes_made : (front : ℕ) (fate : Fate) (arrival : Option (ArrivalValue K)) →
        IsMade (concluded own (comes plain own.state front fate arrival)) (concluded own_with (comes more own_with.state front fate arrival))
    comes_made front fate None = tt
    comes_made front fate (Some arrival) =
        met_made front (plain.arrives own.state.station arrival fate) (more.arrives t arrival fate)
        (as_much.arrives own.state.station t beside arrival fate)

    ordered_made : (front : ℕ) (fate : Fate) (arrival : Option (ArrivalValue K)) (early : Bool) →
        IsMade (concluded own (cond early (Err HintOrder) (comes plain own.state front fate arrival)))
        (concluded own_with (cond early (Err HintOrder) (comes more own_with.state front fate arrival)))
    ordered_made front fate arrival true = tt
    ordered_made front fate arrival false = comes_made front fate arrival

    received_made : (hint : ℕ) (fate : Fate) (bytes : List ℕ) (o : Option (UnitOf K)) →
        IsMade (read own (receives plain own.state hint fate bytes) o) (read own_with (receives more own_with.state hint fate bytes) o)
    received_made hint fate bytes None = tt
    received_made hint fate bytes (Some unit) = ordered_made (hint + 1) fate (coming unit bytes) (nat_lt hint own.state.front)

    step_made : (r : Record) → IsMade (advance (step plain) own other r) (advance (step more) own_with other_with r)
    step_made (Sent bytes) = sent_made bytes (reading bytes)
    step_made (Received hint fate bytes) = received_made hint fate bytes (slice_get other.sent hint)
    step_made (Noise bytes) = noise_made (damage (reading bytes))
    step_made (User event) =
        does_made (plain.user own.state.station event) (more.user t event) (as_much.user own.state.station t beside event)

    -- what is made, is
    half_made : (r : Record) (half : Half (NodeOf S) (UnitOf K)) → advance (step plain) own other r ≡ Made half →
        MadeWith half (advance (step more) own_with other_with r)
    half_made r half made =
        subst (λ (o : Outcome (NodeOf S) (UnitOf K) StepRefusal). IsMade o (advance (step more) own_with other_with r)) made (step_made r)

  -- ---- a run

  pub record RunsWith (w end : World (NodeOf S) (UnitOf K)) (xs ys : List Record) (t u : S) : Type 0 where
    pub a : S
    pub b : S
    pub run : Run (pair_of more) (world_with w t u) xs ys (world_with end a b)
    pub beside_a : Beside end.a.state.station a
    pub beside_b : Beside end.b.state.station b

  pub runs_with : {w end : World (NodeOf S) (UnitOf K)} {xs ys : List Record} (t u : S) → Beside w.a.state.station t → Beside w.b.state.station u →
      Run (pair_of plain) w xs ys end → RunsWith w end xs ys t u
  runs_with t u beside_a beside_b Done = record { a = t; b = u; run = Done; beside_a = beside_a; beside_b = beside_b }
  runs_with {w} t u beside_a beside_b (OfA {h = half} {r = r} made rest) =
      let m = half_made w.a w.b t u beside_a r half made in
      let further = runs_with m.left u m.beside beside_b rest in
      record { a = further.a; b = further.b; run = OfA m.is further.run; beside_a = further.beside_a; beside_b = further.beside_b }
  runs_with {w} t u beside_a beside_b (OfB {h = half} {r = r} made rest) =
      let m = half_made w.b w.a u t beside_b r half made in
      let further = runs_with t m.left beside_a m.beside rest in
      record { a = further.a; b = further.b; run = OfB m.is further.run; beside_a = further.beside_a; beside_b = further.beside_b }
