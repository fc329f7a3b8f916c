-- What a node makes of a receipt, by the bytes that came beside the unit.
use Rattle.std.proofs.Common.{◌≡◌, ℕ, ◌+◌, ◌<◌, ◌≤◌, List, Option, Some, Result, Err, sym, ap, ◌∙◌, cond}
use Rattle.std.proofs.lemmas.Bool.{lt-ltb, le-ltb}
use Rattle.capture_record.specs.declared.fate.Fate.{Fate}
use Rattle.dna_station.specs.declared.refusal.StepRefusal.{StepRefusal}
use Rattle.dna_station.specs.declared.refusal.StepRefusal.TheVariants.{HintOrder}
use Rattle.dna_station.specs.Book.{ArrivalValue}
use Rattle.dna_station.specs.Line.{coming}
use Rattle.dna_station.specs.Machine.{met, comes}
use Rattle.dna_node.specs.WireLayers.{LayersTag, WireLayers, WireLayersNode, WireLayersUnit}
use Rattle.pair_judge.specs.inner.Wire.{judge_receives, JudgeTop}

-- ---- what a node makes of it

module _ (top : JudgeTop) where
  -- the hint lies below the front
  pub receives_back : (n : WireLayersNode) (hint : ℕ) (fate : Fate) (bytes : List ℕ) (unit : WireLayersUnit) → hint < n.front →
      judge_receives top n hint fate bytes unit ≡ Err HintOrder
  receives_back n hint fate bytes unit below =
      ap (λ b. cond b (Err HintOrder) (comes top.machine n (hint + 1) fate (coming unit bytes))) (lt-ltb hint n.front below)

  -- at or above the front it goes by what comes
  pub receives_at : (n : WireLayersNode) (hint : ℕ) (fate : Fate) (bytes : List ℕ) (unit : WireLayersUnit) (came : Option (ArrivalValue LayersTag)) →
      n.front ≤ hint → came ≡ coming unit bytes → judge_receives top n hint fate bytes unit ≡ comes top.machine n (hint + 1) fate came
  receives_at n hint fate bytes unit came at_least is =
      ap (λ b. cond b (Err HintOrder) (comes top.machine n (hint + 1) fate (coming unit bytes))) (le-ltb hint n.front at_least)
      ∙ ap (comes top.machine n (hint + 1) fate) (sym is)

  -- as both layers go by it
  pub comes_by : (n : WireLayersNode) (hint : ℕ) (fate : Fate) (arrival : ArrivalValue LayersTag) (o : Result WireLayers StepRefusal) →
      top.machine.arrives n.station arrival fate ≡ o → comes top.machine n (hint + 1) fate (Some arrival) ≡ met n (hint + 1) o
  comes_by n hint fate arrival o goes = ap (met n (hint + 1)) goes
