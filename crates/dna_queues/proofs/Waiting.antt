-- Of packets that wait each is for a link, and of messages that wait each is of a link.
use Rattle.dna_queues.proofs.Prelude.{◌≡◌, ℕ, ◌<◌, ◌≤◌, true, ◌&&◌, ◌==◌, Some, List, [], ◌∷◌, ◌++◌, sym, subst, arith, SentMessage, link_it_is_for}
use Rattle.dna_queues.proofs.Prelude.{link_it_is_of, Takes, First, Behind}

abbrev pub IsFor : SentMessage → Type 0
IsFor unit = (address : ℕ) × (link_it_is_for unit ≡ Some address)

abbrev pub AreFor : List SentMessage → Type 0
AreFor [] = Unit {0}
AreFor (unit ∷ units) = IsFor unit × AreFor units

pub for_taken : (units left : List SentMessage) (unit : SentMessage) → Takes link_it_is_for units unit left → AreFor units →
    IsFor unit × AreFor left
for_taken units left unit (First _ _) are = are
for_taken units left unit (Behind other _ rest rest_left differs takes) are =
    let r = for_taken rest rest_left unit takes are.1 in (r.0, (are.0, r.1))

pub for_push : (units : List SentMessage) (unit : SentMessage) → AreFor units → IsFor unit → AreFor (units ++ unit ∷ [])
for_push [] unit are is = (is, tt)
for_push (first ∷ units) unit are is = (are.0, for_push units unit are.1 is)

module _ (node peer : ℕ) where
  pub record IsOf (size : ℕ) (unit : SentMessage) : Type 0 where
    pub number : ℕ
    pub is : link_it_is_of unit ≡ Some number
    pub within : number < size
    pub goes : (unit.packet.src == node && unit.packet.dst == peer) ≡ true

  abbrev pub AreOf : ℕ → List SentMessage → Type 0
  AreOf size [] = Unit {0}
  AreOf size (unit ∷ units) = IsOf size unit × AreOf size units

  pub of_taken : (size : ℕ) (units left : List SentMessage) (unit : SentMessage) → Takes link_it_is_of units unit left → AreOf size units →
      IsOf size unit × AreOf size left
  of_taken size units left unit (First _ _) are = are
  of_taken size units left unit (Behind other _ rest rest_left differs takes) are =
      let r = of_taken size rest rest_left unit takes are.1 in (r.0, (are.0, r.1))

  pub of_push : (size : ℕ) (units : List SentMessage) (unit : SentMessage) → AreOf size units → IsOf size unit → AreOf size (units ++ unit ∷ [])
  of_push size [] unit are is = (is, tt)
  of_push size (first ∷ units) unit are is = (are.0, of_push size units unit are.1 is)

  pub of_more : (size more : ℕ) (units : List SentMessage) → size ≤ more → AreOf size units → AreOf more units
  of_more size more [] grows are = tt
  of_more size more (unit ∷ units) grows are =
      let a = are.0 in let w = a.within in (
        record { number = a.number; is = a.is; within = omega (arith, w, grows); goes = a.goes },
        of_more size more units grows are.1,
      )

pub of_same : (node peer size node' peer' size' : ℕ) (units : List SentMessage) → node' ≡ node → peer' ≡ peer → size' ≡ size →
    AreOf node peer size units → AreOf node' peer' size' units
of_same node peer size node' peer' size' units a b c are =
    subst (λ (x : ℕ). AreOf x peer' size' units) (sym a) (subst (λ (x : ℕ). AreOf node x size' units) (sym b)
    (subst (λ (x : ℕ). AreOf node peer x units) (sym c) are))
