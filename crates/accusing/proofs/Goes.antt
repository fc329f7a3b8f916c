-- An answer that is no refutation, and covers the station; and a station that has given no number.
use Rattle.std.proofs.Common.{◌≡◌, ℕ, ◌≤◌, Bool, true, false, not, cond, Result, Ok, List, refl, sym}
use Rattle.std.proofs.Common.{subst, arith}
use Rattle.std.proofs.lemmas.Bool.{le-leb}
use Rattle.wire_base.specs.Seq.{wire_distance}
use Rattle.dna_station.specs.declared.state.State.{State}
use Rattle.dna_station.specs.declared.state.State.TheVariants.{Running}
use Rattle.dna_station.specs.WireStation.{StationVariables}
use Rattle.accusing.specs.declared.heard.Heard.{Heard}
use Rattle.accusing.specs.declared.beginning.Beginning.{Beginning}
use Rattle.accusing.specs.declared.wrong.Wrong.{Wrong}
use Rattle.accusing.specs.Heard.{reaches}
use Rattle.accusing.specs.Sight.{Sight}
use Rattle.accusing.proofs.Orders.{IsWithin}
use Rattle.accusing.proofs.Fits.{NoneIsGiven, IsReached, HasBegunIn, HasBegun}
use Rattle.accusing.proofs.Covering.{Covers}

pub flipped : (a b : Bool) → (b ≡ false → a ≡ false) → a ≡ true → b ≡ true
flipped a true keeps e = refl
flipped a false keeps e = absurd (let f = keeps refl in cc)

module _ {L : Type 0} where
  -- the answer is no refutation, and covers the station
  pub record Goes (answer : Result Sight Wrong) (coming : List (List ℕ)) (k : StationVariables L) : Type 0 where
    pub sight : Sight
    pub is : answer ≡ Ok sight
    pub covers : Covers sight coming k

  module _ (coming : List (List ℕ)) (k : StationVariables L) where
    pub goes : (s : Sight) → Covers s coming k → Goes (Ok s) coming k
    goes s c = record { sight = s; is = refl; covers = c }

    -- a test that is met, or not, or either
    pub by_true : (b : Bool) (met other : Result Sight Wrong) → b ≡ true → Goes met coming k → Goes (cond b met other) coming k
    by_true b met other e g = subst (λ (x : Bool). Goes (cond x met other) coming k) (sym e) g

    pub by_false : (b : Bool) (other met : Result Sight Wrong) → b ≡ false → Goes met coming k → Goes (cond b other met) coming k
    by_false b other met e g = subst (λ (x : Bool). Goes (cond x other met) coming k) (sym e) g

    pub by_not_true : (b : Bool) (other met : Result Sight Wrong) → b ≡ true → Goes met coming k → Goes (cond (not b) other met) coming k
    by_not_true b other met e g = subst (λ (x : Bool). Goes (cond (not x) other met) coming k) (sym e) g

    pub by_either : (b : Bool) (met other : Result Sight Wrong) → Goes met coming k → (b ≡ false → Goes other coming k) →
        Goes (cond b met other) coming k
    by_either true met other p q = p
    by_either false met other p q = q refl

  -- R of the station is reached by all that can have come
  pub reached_by : (h t : Heard) (resp : ℕ) (k : StationVariables L) → resp ≡ k.received → IsWithin h t → IsReached h k → reaches t resp ≡ true
  reached_by h t resp k e p is =
      le-leb (wire_distance 256 t.received resp) t.reach
      (subst (λ (x : ℕ). wire_distance 256 t.received x ≤ t.reach) (sym e)
      (subst (λ (x : ℕ). wire_distance 256 x k.received ≤ t.reach) p.received (omega (arith, is.reach, p.reach))))

  -- ---- a station in RUNNING that has given no number

  pub record IsFresh (b : Beginning) (k : StationVariables L) : Type 0 where
    pub running : k.state ≡ Running
    pub given : NoneIsGiven k
    pub run : b.run ≡ true
    pub reached : IsReached b.heard k

  pub fresh : (b : Beginning) (k : StationVariables L) → k.state ≡ Running → HasBegun b k → IsFresh b k
  fresh b k running begun =
      let in_running = subst (λ (x : State). HasBegunIn b x k) running begun in
      record { running = running; given = in_running.0; run = in_running.1; reached = in_running.2 }
