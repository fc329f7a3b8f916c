-- What an end of the player ever sent is still there after each step, and more behind it.
use Rattle.dna_play.proofs.Prelude.{◌≡◌, List, [], ◌++◌, refl, sym, ap, ◌∙◌, append_assoc, append-nil, Record, by_bytes, LayersUnit, OnTop}
use Rattle.dna_play.proofs.Prelude.{Again}
use Rattle.dna_node.proofs.OnTop as on_top
use Rattle.dna_play.proofs.Played.Steps.{PlayHalf, MakesAll, Nothing, First}
use Rattle.dna_play.proofs.Played.Runs.{makes_on_top}

pub record Grows (before after : List LayersUnit) : Type 0 where
  pub more : List LayersUnit
  pub is : after ≡ before ++ more

stays : (sent : List LayersUnit) → Grows sent sent
stays sent = record { more = []; is = sym (append-nil sent) }

left_grows : (own other half : PlayHalf) (r : Record) → OnTop by_bytes own other r half → Grows own.sent half.sent
left_grows own other half r (Again bytes m old) = record { more = _; is = refl }
left_grows own other half r (on_top.First bytes m new links sent is) = record { more = _; is = refl }
left_grows own other half r done = stays own.sent

pub all_grows : (other : PlayHalf) {own half : PlayHalf} {records : List Record} → MakesAll other own records half → Grows own.sent half.sent
all_grows other {own} Nothing = stays own.sent
all_grows other (First {own} {next} {end} {r} {later} m rest) =
    let one = left_grows own other next r (makes_on_top own other r next m) in let all = all_grows other rest in
    record {
      more = one.more ++ all.more;
      is = all.is ∙ ap (λ (sent : List LayersUnit). sent ++ all.more) one.is ∙ append_assoc own.sent one.more all.more;
    }
