-- What is said of a station, by what has come to it.
use Rattle.accusing.specs.Heard.{has_resp}
use Rattle.std.proofs.Common.{◌⊎◌, inl, inr, ◌≡◌, ℕ, ◌-◌, ◌%◌, ◌<◌, ◌≤◌, Bool, true, false, List, [], ◌++◌, length, map, refl, subst, arith}
use Rattle.wire_base.specs.Seq.{wire_distance}
use Rattle.dna_station.specs.declared.state.State.{State}
use Rattle.dna_station.specs.declared.state.State.TheVariants.{Halted, Istrt, Astrt, Running}
use Rattle.dna_station.specs.WireStation.{HeldPacket, StationVariables}
use Rattle.accusing.specs.declared.heard.Heard.{Heard}
use Rattle.accusing.specs.declared.beginning.Beginning.{Beginning}
use Rattle.accusing.specs.Mark.{mark_of}
use Rattle.accusing.specs.Sight.{Given}
use Rattle.accusing.proofs.Orders.{IsWithin}
use Rattle.accusing.proofs.Beginnings.{ComesFrom}

flip : (a b : Bool) → (b ≡ false → a ≡ false) → a ≡ true → b ≡ true
flip a true keeps e = refl
flip a false keeps e = absurd (let f = keeps refl in cc)

either_more : (h t : Heard) (v : ℕ) (A : Type 0) → IsWithin h t → A ⊎ (has_resp h v ≡ true) → A ⊎ (has_resp t v ≡ true)
either_more h t v A p (inl none) = inl none
either_more h t v A p (inr there) = inr (p.resps v there)

module _ {L : Type 0} where
  abbrev pub marked : HeldPacket L → ℕ
  marked p = mark_of p.body

  -- no number is given
  pub record NoneIsGiven (k : StationVariables L) : Type 0 where
    pub acknowledged : k.acknowledged ≡ 0
    pub ahead : k.ahead ≡ 0
    pub held : k.held ≡ []

  pub record IsStart (k : StationVariables L) : Type 0 where
    pub received : k.received ≡ 0
    pub given : NoneIsGiven k

  -- R can be what it is
  pub record IsReached (h : Heard) (k : StationVariables L) : Type 0 where
    pub byte : k.received < 256
    pub reach : wire_distance 256 h.received k.received ≤ h.reach

  -- its period began, and it has given no number
  abbrev pub HasBegunIn : Beginning → State → StationVariables L → Type 0
  HasBegunIn b Halted k = Unit {0}
  HasBegunIn b Istrt k = IsStart k
  HasBegunIn b Astrt k = IsStart k × (b.strt ≡ true)
  HasBegunIn b Running k = NoneIsGiven k × (b.run ≡ true) × IsReached b.heard k

  abbrev pub HasBegun : Beginning → StationVariables L → Type 0
  HasBegun b k = HasBegunIn b k.state k

  -- it runs, and has given these numbers
  pub record HasGiven (h : Heard) (g : Given) (k : StationVariables L) : Type 0 where
    pub running : k.state ≡ Running
    pub reached : IsReached h k
    -- the marks of what is acknowledged
    pub before : List ℕ
    pub marks : g.marks ≡ before ++ map marked k.held
    pub acknowledged : k.acknowledged ≡ length before % 256
    pub few : length k.held ≤ 255
    pub ahead : k.ahead ≤ length k.held
    -- A passed as a RESP, or nothing is acknowledged yet
    pub passed : (length before ≡ 0) ⊎ (has_resp h k.acknowledged ≡ true)
    -- the next to send is the one after the last that was sent, or the one after A
    pub moved : (length k.held - k.ahead ≡ g.back) ⊎ (k.ahead ≡ 0)
    pub unanswered : h.answered ≡ false → (length before ≡ 0) × (g.back ≤ length k.held - k.ahead)
    pub unasked : h.nak ≡ false → length k.held - k.ahead ≤ g.back

  -- ---- where more may have been heard

  pub reached_more : (h t : Heard) (k : StationVariables L) → IsWithin h t → IsReached h k → IsReached t k
  reached_more h t k p is = record {
    byte = is.byte;
    reach = subst (λ (x : ℕ). wire_distance 256 x k.received ≤ t.reach) p.received (omega (arith, is.reach, p.reach));
  }

  pub begun_more : (b t : Beginning) (state : State) (k : StationVariables L) → ComesFrom b t → HasBegunIn b state k → HasBegunIn t state k
  begun_more b t Halted k p is = tt
  begun_more b t Istrt k p is = is
  begun_more b t Astrt k p is = (is.0, flip b.strt t.strt p.strt is.1)
  begun_more b t Running k p is = (is.0, flip b.run t.run p.run is.1, reached_more b.heard t.heard k p.heard is.2)

  pub given_more : (h t : Heard) (g : Given) (k : StationVariables L) → IsWithin h t → HasGiven h g k → HasGiven t g k
  given_more h t g k p is = record {
    running = is.running;
    reached = reached_more h t k p is.reached;
    before = is.before;
    marks = is.marks;
    acknowledged = is.acknowledged;
    few = is.few;
    ahead = is.ahead;
    passed = either_more h t k.acknowledged (length is.before ≡ 0) p is.passed;
    moved = is.moved;
    unanswered = λ e. is.unanswered (p.answered e);
    unasked = λ e. is.unasked (p.nak e);
  }
