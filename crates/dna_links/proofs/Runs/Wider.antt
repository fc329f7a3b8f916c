-- What links without queues do in a run, links with queues may do as well, and the same becomes of them.
use Rattle.std.proofs.Common.{◌≡◌, ℕ, Some, None, List, Result, Ok, refl, sym, ap, ap₂, ◌∙◌, subst}
use Rattle.dna_links.specs.declared.queue.Queues.TheVariants.{Without, With}
use Rattle.dna_station.specs.declared.link_refusal.LinkRefusal.{LinkRefusal}
use Rattle.dna_links.specs.Links.{Carried}
use Rattle.dna_links.specs.User.{LinkEventValue}
use Rattle.dna_links.specs.Sending.{Sent}
use Rattle.dna_links.specs.Arriving.{of_partner}
use Rattle.dna_links.specs.TrueSegments.{TrueSegments, Numbers, true_segments}
use Rattle.dna_links.specs.TrueLinks.{Links, links_user, links_sent, links_arrived}
use Rattle.dna_links.specs.Runs.{LinkSide, LinkWorld, sends, keeps, LinkStep, Reached, Start, ByA, ByB, new_world}
use Rattle.dna_links.specs.Runs as runs
use Rattle.dna_links.specs.Alike.{IsLedTo}
use Rattle.dna_links.proofs.AsMuch.Plain.{plain_links}
use Rattle.dna_links.proofs.AsMuch.Fit.{AllFit, SentFollows, AreDone, AreSent}
use Rattle.dna_links.proofs.AsMuch.User.{user_done}
use Rattle.dna_links.proofs.AsMuch.Sending.{sent_done}
use Rattle.dna_links.proofs.AsMuch.Arriving.{arrived_done}
use Rattle.dna_links.proofs.AsMuch.TrueBook.{true_lets_go, plain_are}

abbrev side_with : LinkSide → Links → LinkSide
side_with own links = record { links = links; sent = own.sent; front = own.front }

abbrev plain_side : LinkSide → LinkSide
plain_side own = side_with own (plain_links true_segments own.links)

abbrev plain_world : LinkWorld → LinkWorld
plain_world w = record { a = plain_side w.a; b = plain_side w.b }

-- ---- one step

record StepFollows (own other : LinkSide) (events : List LinkEventValue) (left : LinkSide) : Type 0 where
  side : LinkSide
  step : LinkStep With own other events side
  same : plain_side side ≡ left
  fit : AllFit side.links

module _ (own other : LinkSide) (fits : AllFit own.links) where
  sent_more : (packet : Carried) (made : Sent TrueSegments Numbers) → links_sent Without (plain_links true_segments own.links) packet ≡ Ok made →
      SentFollows true_segments (links_sent With own.links packet) made
  sent_more packet made does =
      subst (λ (o : Result (Sent TrueSegments Numbers) LinkRefusal). AreSent true_segments o (links_sent With own.links packet)) does
      (sent_done true_segments true_lets_go own.links fits packet)

  step_more : (events : List LinkEventValue) (left : LinkSide) → LinkStep Without (plain_side own) (plain_side other) events left →
      StepFollows own other events left
  step_more events left (runs.ByUser event links does) =
      let f = subst (λ (o : Result Links LinkRefusal). AreDone true_segments o (links_user With own.links event)) does
      (user_done true_segments true_lets_go own.links fits event) in
      record { side = side_with own f.links; step = runs.ByUser event f.links f.does; same = ap (side_with own) f.same; fit = f.fit }
  step_more events left (runs.Sends packet made does) =
      let f = sent_more packet made does in
      record {
        side = sends own f.sent.links (Some (record { packet = packet; truth = f.sent.truth }));
        step = runs.Sends packet f.sent f.does;
        same = ap (λ (x : Sent TrueSegments Numbers). sends own x.links (Some (record { packet = packet; truth = x.truth }))) f.same;
        fit = f.fit;
      }
  step_more events left runs.SendsNone = record { side = sends own own.links None; step = runs.SendsNone; same = refl; fit = fits }
  step_more events left (runs.Keeps place unit links ahead at does) =
      let f = subst (λ (o : Result Links LinkRefusal). AreDone true_segments o (links_arrived With of_partner own.links unit.packet unit.truth)) does
      (arrived_done true_segments true_lets_go of_partner own.links fits unit.truth unit.packet) in
      record {
        side = keeps own f.links place;
        step = runs.Keeps place unit f.links ahead at f.does;
        same = ap (λ (x : Links). keeps own x place) f.same;
        fit = f.fit;
      }
  step_more events left (runs.Composes packet made does) =
      let f = sent_more packet made does in
      record {
        side = side_with own f.sent.links;
        step = runs.Composes packet f.sent f.does;
        same = ap (λ (x : Sent TrueSegments Numbers). side_with own x.links) f.same;
        fit = f.fit;
      }
  step_more events left (runs.Passes place ahead less) =
      record { side = keeps own own.links place; step = runs.Passes place ahead less; same = refl; fit = fits }

-- ---- all that steps lead to

-- a world that steps with queues lead to, and that is this one but for what the queues leave open
record FitsLedTo (start w : LinkWorld) (of_a of_b : List LinkEventValue) : Type 0 where
  world : LinkWorld
  reached : Reached With start world of_a of_b
  same : plain_world world ≡ w
  fit_a : AllFit world.a.links
  fit_b : AllFit world.b.links

led_to : {start w : LinkWorld} {of_a of_b : List LinkEventValue} → plain_world start ≡ start → AllFit start.a.links → AllFit start.b.links →
    Reached Without start w of_a of_b → FitsLedTo start w of_a of_b
led_to {start} is a b Start = record { world = start; reached = Start; same = is; fit_a = a; fit_b = b }
led_to is a b (ByA {w = v} {events = made} {left = left} r step) =
    let h = led_to is a b r in
    let f = step_more h.world.a h.world.b h.fit_a made left
    (subst (λ (x : LinkWorld). LinkStep Without x.a x.b made left) (sym h.same) step) in
    record {
      world = record { a = f.side; b = h.world.b };
      reached = ByA h.reached f.step;
      same = ap₂ (λ (x : LinkSide) (y : LinkWorld). let w : LinkWorld = record { a = x; b = y.b } in w) f.same h.same;
      fit_a = f.fit;
      fit_b = h.fit_b;
    }
led_to is a b (ByB {w = v} {events = made} {left = left} r step) =
    let h = led_to is a b r in
    let f = step_more h.world.b h.world.a h.fit_b made left
    (subst (λ (x : LinkWorld). LinkStep Without x.b x.a made left) (sym h.same) step) in
    record {
      world = record { a = h.world.a; b = f.side };
      reached = ByB h.reached f.step;
      same = ap₂ (λ (x : LinkSide) (y : LinkWorld). let w : LinkWorld = record { a = y.a; b = x } in w) f.same h.same;
      fit_a = h.fit_a;
      fit_b = f.fit;
    }

-- from before any record
pub new_led_to : (node_a peer_a node_b peer_b : ℕ) (w : LinkWorld) (of_a of_b : List LinkEventValue) →
    Reached Without (new_world node_a peer_a node_b peer_b) w of_a of_b → IsLedTo (new_world node_a peer_a node_b peer_b) w of_a of_b
new_led_to node_a peer_a node_b peer_b w of_a of_b r =
    let h = led_to refl (λ i l at. absurd cc) (λ i l at. absurd cc) r in
    record {
      world = h.world;
      reached = h.reached;
      same = ap₂ (λ (x y : Links). let w : LinkWorld = record { a = side_with h.world.a x; b = side_with h.world.b y } in w)
          (sym (plain_are h.world.a.links)) (sym (plain_are h.world.b.links)) ∙ h.same;
    }
