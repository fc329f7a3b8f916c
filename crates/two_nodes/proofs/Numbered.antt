-- Numbers that one side gives and the other takes and acknowledges, over lines that keep their order: what holds of all messages and of
-- both sides at any time, and that a message on the line is near the numbers of its receiver. It speaks of no protocol: a side goes
-- by a name (its period, or its link), and `view` says what it sees of a message.
use Rattle.std.proofs.Common.{◌≡◌, ℕ, ◌+◌, ◌<◌, ◌≤◌, max, ◌⊎◌, inl, inr, Option, Some, None, List, [], ◌∷◌, length, sym, ◌∙◌, arith}
use Rattle.std.specs.Prelude.{slice_get}
use Rattle.std.proofs.lemmas.Option.{same_Some}

-- How many numbers may be outstanding; how far below the highest given one a number may lie; and how far below the last
-- acknowledgement sent an acknowledgement may
pub record Limits : Type 0 where
  pub within : ℕ
  pub reach : ℕ
  pub back : ℕ

-- the numbers of one side, with the last acknowledgement that it sent
pub record Numbers : Type 0 where
  pub name : ℕ
  pub partner : Option ℕ
  pub given : ℕ
  pub received : ℕ
  pub acknowledged : ℕ
  pub last : ℕ

-- what is seen of a message: its sender's numbers after the sending, the last acknowledgement before it, and what it carries
pub record Numbered : Type 0 where
  pub sender : Numbers
  pub last_before : ℕ
  pub number : Option ℕ
  pub acks : List ℕ

-- ---- what a message may carry

module _ (l : Limits) where
  -- word by word, an acknowledgement is not too far below the last one and not above what was received
  abbrev pub AcksFrom : (last most : ℕ) → List ℕ → Type 0
  AcksFrom last most [] = Unit {0}
  AcksFrom last most (ack ∷ acks) = (last ≤ ack + l.back) × (ack ≤ most) × AcksFrom (max last ack) most acks

  abbrev pub IsGiven : Option ℕ → ℕ → Type 0
  IsGiven None given = Unit {0}
  IsGiven (Some number) given = (number ≤ given) × (given ≤ number + l.reach)

  -- a message was lawful when it was sent
  pub record IsLawful (m : Numbered) : Type 0 where
    pub few : m.sender.given ≤ m.sender.acknowledged + l.within
    pub number : IsGiven m.number m.sender.given
    pub acks : AcksFrom m.last_before m.sender.received m.acks

  -- a number is near what its receiver has received
  abbrev pub NumberNear : Option ℕ → ℕ → Type 0
  NumberNear None received = Unit {0}
  NumberNear (Some number) received = (received ≤ number + l.reach) × (number ≤ received + l.within)

  -- a message is near the numbers of its receiver
  pub record IsNear (now : Numbers) (m : Numbered) : Type 0 where
    pub given_least : now.received ≤ m.sender.given
    pub given_most : m.sender.given ≤ now.received + l.within
    pub number : NumberNear m.number now.received
    pub acks : AcksFrom now.acknowledged now.given m.acks

-- an earlier message of a side, and a later one
pub record IsBefore (m n : Numbered) : Type 0 where
  pub given : m.sender.given ≤ n.sender.given
  pub received : m.sender.received ≤ n.sender.received
  pub last : m.sender.last ≤ n.last_before

-- a side that sent a message, and what has become of it
pub record IsUpTo (then now : Numbers) : Type 0 where
  pub given : then.given ≤ now.given
  pub received : then.received ≤ now.received
  pub last : then.last ≤ now.last

module _ {U : Type 0} (view : U → Numbered) where
  -- a message of the partner, among its first ones, says so
  pub record Source (other : List U) (partner : Option ℕ) (below : ℕ) (says : Numbered → Type 0) : Type 0 where
    pub place : ℕ
    pub unit : U
    pub earlier : place < below
    pub there : slice_get other place ≡ Some unit
    pub is_partner : partner ≡ Some (view unit).sender.name
    pub says_so : says (view unit)

  -- what was received is 0 or was given by a message of the partner; what was acknowledged is 0 or was received by it, and so said
  abbrev pub ReceivedFrom : List U → ℕ → Numbers → Type 0
  ReceivedFrom other below now = (now.received ≡ 0) ⊎ Source other now.partner below (λ (m : Numbered). now.received ≤ m.sender.given)

  abbrev pub AcknowledgedFrom : List U → ℕ → Numbers → Type 0
  AcknowledgedFrom other below now =
      (now.acknowledged ≡ 0) ⊎ Source other now.partner below
      (λ (m : Numbered). (now.acknowledged ≤ m.sender.last) × (now.acknowledged ≤ m.sender.received))

  -- of all messages of a side
  pub record AreNumbered (l : Limits) (own other : List U) : Type 0 where
    pub rising : (i j : ℕ) (m n : U) → i < j → slice_get own i ≡ Some m → slice_get own j ≡ Some n → (view m).sender.name ≡ (view n).sender.name →
        IsBefore (view m) (view n)
    pub lawful : (i : ℕ) (m : U) → slice_get own i ≡ Some m → IsLawful l (view m)
    pub received_from : (i : ℕ) (m : U) → slice_get own i ≡ Some m → ReceivedFrom other (length other) (view m).sender
    pub acknowledged_from : (i : ℕ) (m : U) → slice_get own i ≡ Some m → AcknowledgedFrom other (length other) (view m).sender

  -- of a side now, which may still meet the other's messages from the front on
  pub record IsPresent (l : Limits) (own other : List U) (front : ℕ) (now : Numbers) : Type 0 where
    pub up_to : (i : ℕ) (m : U) → slice_get own i ≡ Some m → (view m).sender.name ≡ now.name → IsUpTo (view m).sender now
    pub few : now.given ≤ now.acknowledged + l.within
    pub received_from : ReceivedFrom other front now
    pub acknowledged_from : AcknowledgedFrom other front now

  module _ (l : Limits) where
    -- ---- the bounds

    module _ (own other : List U) (front : ℕ) (now : Numbers) (theirs : AreNumbered l other own) (present : IsPresent l own other front now) (k : ℕ)
        (u : U) (there : slice_get other k ≡ Some u) (coming : front ≤ k)
        (from : now.partner ≡ Some (view u).sender.name) (to : (view u).sender.partner ≡ Some now.name) where
      -- what came from the partner came before this message
      came_before : (says : Numbered → Type 0) (s : Source other now.partner front says) → IsBefore (view s.unit) (view u)
      came_before says s =
          let e = s.earlier in
          theirs.rising s.place k s.unit u (omega arith) s.there there (same_Some _ _ (sym s.is_partner ∙ from))

      -- what the message knows of this side, this side sent
      known_sent : (says : Numbered → Type 0) (s : Source own (view u).sender.partner (length own) says) → IsUpTo (view s.unit).sender now
      known_sent says s = present.up_to s.place s.unit s.there (same_Some _ _ (sym s.is_partner ∙ to))

      given_least : now.received ≤ (view u).sender.given
      given_least = go present.received_from
        where
          go : ReceivedFrom other front now → now.received ≤ (view u).sender.given
          go (inl e) = omega arith
          go (inr s) = let b = came_before _ s in let p = s.says_so in let q = b.given in omega arith

      acknowledged_received : (view u).sender.acknowledged ≤ now.received
      acknowledged_received = go (theirs.acknowledged_from k u there)
        where
          go : AcknowledgedFrom own (length own) (view u).sender → (view u).sender.acknowledged ≤ now.received
          go (inl e) = omega arith
          go (inr s) = let b = known_sent _ s in let p = s.says_so.1 in let q = b.received in omega arith

      received_given : (view u).sender.received ≤ now.given
      received_given = go (theirs.received_from k u there)
        where
          go : ReceivedFrom own (length own) (view u).sender → (view u).sender.received ≤ now.given
          go (inl e) = omega arith
          go (inr s) = let b = known_sent _ s in let p = s.says_so in let q = b.given in omega arith

      acknowledged_last : now.acknowledged ≤ (view u).last_before
      acknowledged_last = go present.acknowledged_from
        where
          go : AcknowledgedFrom other front now → now.acknowledged ≤ (view u).last_before
          go (inl e) = omega arith
          go (inr s) = let b = came_before _ s in let p = s.says_so.0 in let q = b.last in omega arith

      given_most : (view u).sender.given ≤ now.received + l.within
      given_most = let f = (theirs.lawful k u there).few in let a = acknowledged_received in omega arith

      number_near : (n : Option ℕ) → IsGiven l n (view u).sender.given → NumberNear l n now.received
      number_near None g = tt
      number_near (Some n) g = let a = given_least in let b = given_most in let p = g.0 in let q = g.1 in (omega arith, omega arith)

      acks_near : (last most last' most' : ℕ) (acks : List ℕ) → last ≤ last' → most' ≤ most → AcksFrom l last' most' acks → AcksFrom l last most acks
      acks_near last most last' most' [] p q fits = tt
      acks_near last most last' most' (ack ∷ acks) p q fits =
          let a = fits.0 in let b = fits.1 in
          (omega arith, omega arith, acks_near (max last ack) most (max last' ack) most' acks (omega arith) q fits.2)

      pub near : IsNear l now (view u)
      near = record {
        given_least = given_least;
        given_most = given_most;
        number = number_near (view u).number (theirs.lawful k u there).number;
        acks = acks_near now.acknowledged now.given (view u).last_before (view u).sender.received (view u).acks acknowledged_last received_given
            (theirs.lawful k u there).acks;
      }
