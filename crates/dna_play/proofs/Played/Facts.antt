-- What is known of an end of the player beside the other while a script is played: of what may come to it, and of what its user may get then. It
-- stays known while the end takes a unit and its user gets what is whole.
use Rattle.dna_play.proofs.Prelude.{◌≡◌, ℕ, ◌<◌, ◌≤◌, ◌^◌, true, Option, Some, None, List, [], ◌++◌, Ok, sym, ap, ◌∙◌, arith, subst, slice_get}
use Rattle.dna_play.proofs.Prelude.{cut_half, lasts, reading, NspValue, Record, IsNode, Without, judged, Head, Sound, body_of, arrival_refusal}
use Rattle.dna_play.proofs.Prelude.{of_partner, ArrivesNear, AreLinksBounded, SentMessage, LinkWorld, content, LayersUnit, stations, layers_pair}
use Rattle.dna_play.proofs.Prelude.{side_of, link_events, Played, is_data, sound_bounded, LayersRead, packet_in, read_kept, start_read}
use Rattle.dna_play.proofs.Prelude.{without_loose, BothOwned, sound, owned, bounded, content_in_range, IsLayersBounded, a_bounded, BothLinksSound}
use Rattle.dna_play.proofs.Prelude.{AreAddressed, BothAddressed, reached_addressed, unit_reads, unit_content, ready_a}
use Rattle.std.proofs.Math.Nat.{add-zero}
use Rattle.ddcmp_msg.specs.Reading as read_as
use Rattle.dna_play.proofs.{Played.HandedLined.events_lined, Played.SidesLined.is_lined, Played.SentLined.AreSentLined, Played.SentLined.sent_lined}
use Rattle.dna_play.proofs.{Played.Steps.PlayHalf, Played.Steps.MakesAll, Played.Order.InOrder, Played.Order.order_join, Played.Reached.Progress}
use Rattle.dna_play.proofs.{Played.Known.heads_stay, Played.Known.numbers_of, Ends.Stage.Known, Ends.UpsFollow.IsLined}
use Rattle.dna_play.proofs.Played.Runs.{Going, first_head, second_head, more_of_a}
use Rattle.dna_play.proofs.Played.Checked.{IsCheckedRun, orderly, checked}
use Rattle.dna_play.proofs.Ends.TrueEnd.{End, station_of, links_of, stored, coming}

pub record Facts (own other : End) : Type 0 where
  pub known : Known own other
  -- each message of the other side's links goes from its node to this one
  pub from : (k : ℕ) (u : SentMessage) → slice_get other.half.state.station.messages k ≡ Some (Some u) →
      (u.packet.src ≡ (links_of own.half).peer) × (u.packet.dst ≡ (links_of own.half).node)
  -- what is whole of its links has lines
  pub whole : (m : NspValue) → IsLined (links_of own.half) m
  -- each unit that may come has a line, and reads as it was put together
  pub lined : AreSentLined other.half
  pub reads : (k : ℕ) (unit : LayersUnit) → slice_get other.half.sent k ≡ Some unit → reading unit.bytes ≡ read_as.Sound unit.message
  pub packets : (k : ℕ) (unit : LayersUnit) → slice_get other.half.sent k ≡ Some unit → is_data unit.message ≡ true →
      content (body_of unit.message) ≡ Ok (packet_in unit.known.carried)
  -- the numbers of a message that may be kept are near those of the link that it is for
  pub near : (k : ℕ) (unit : LayersUnit) → slice_get other.half.sent k ≡ Some unit → own.half.state.front ≤ k →
      arrival_refusal judged.periods (station_of own.half) (Sound unit.message unit.known.station) true ≡ None →
      (u : SentMessage) → unit.known.carried ≡ Some u → ArrivesNear of_partner (links_of own.half) u.packet.message u.truth

-- also behind records that start nothing and give no address
abbrev pub Later : (own other : End) → Type 0
Later own other = (e : End) (records : List Record) → MakesAll other.half own.half records e.half → InOrder own.addresses 0 records e.addresses →
    Facts e other

-- a unit that may be kept has its message, and that is near
comes_near : (own other : PlayHalf) (front of_other : ℕ) → IsLayersBounded Without own other front of_other →
    AreLinksBounded (side_of own front) (side_of other of_other) → (k : ℕ) (unit : LayersUnit) → slice_get other.sent k ≡ Some unit →
    own.state.front ≤ k → arrival_refusal judged.periods own.state.station.station (Sound unit.message unit.known.station) true ≡ None →
    (u : SentMessage) → unit.known.carried ≡ Some u → ArrivesNear of_partner own.state.station.links u.packet.message u.truth
comes_near own other front of_other c bounds k unit there ahead allowed u is =
    let h = c.kept k unit there ahead allowed in
    let small = content_in_range (body_of unit.message) u.packet (h.read ∙ ap (λ (o : Option SentMessage). Ok (packet_in o)) is) in
    bounds.near unit.known.station.place u h.ahead (h.told ∙ ap Some is) small

-- both ends beside their nodes, with the records of each so far
pub record TrueEnds : Type 0 where
  pub a : End
  pub b : End
  pub of_a : List Record
  pub of_b : List Record

-- what is played then
abbrev pub played_of : TrueEnds → Played
played_of both = record {
  ends = record {
    pair = record {
      a = record { end = stored both.a; coming = coming both.a both.b.half };
      b = record { end = stored both.b; coming = coming both.b both.a.half };
    };
    of_a = both.of_a;
    of_b = both.of_b;
  };
  nodes = record { a = both.a.half; b = both.b.half };
}

word : (node : ℕ) → IsNode node → node < 2 ^ 16
word node h = let most = h.most_area in omega arith

-- what was played so far starts each side at most once
module _ (p : Progress) (node_a : IsNode p.node_a) (node_b : IsNode p.node_b) (few_a : p.starts_a ≤ 1) (few_b : p.starts_b ≤ 1) where
  module _ (both : TrueEnds) (g : Going p (played_of both)) where
    run : IsCheckedRun p (played_of both)
    run = checked p (played_of both) g few_a few_b

    met : LayersRead Without (first_head p) (second_head p) (played_of both).nodes both.of_a both.of_b
    met = lasts layers_pair (LayersRead Without (first_head p) (second_head p)) (read_kept Without (first_head p) (second_head p)) [] []
        (start_read Without (first_head p) (second_head p)) run

    abbrev links_world : LinkWorld
    links_world = record { a = side_of both.a.half met.joined.joined.front_a; b = side_of both.b.half met.joined.joined.front_b }

    all_sound : BothLinksSound links_world
    all_sound = sound _ _ _ _ _ _ _ (without_loose met.joined.joined.reached)

    all_owned : BothOwned links_world (link_events both.of_a) (link_events both.of_b)
    all_owned = owned _ _ _ _ _ _ _ (without_loose met.joined.joined.reached)

    bounds : AreLinksBounded links_world.a links_world.b × AreLinksBounded links_world.b links_world.a
    bounds = bounded _ _ _ _ _ _ _ (without_loose met.joined.joined.reached)

    lines : AreSentLined both.a.half × AreSentLined both.b.half
    lines = sent_lined run g.made.lines_a g.made.lines_b (λ k unit at. absurd cc) (λ k unit at. absurd cc)

    addresses : BothAddressed p.node_a p.node_b p.node_b p.node_a links_world (link_events both.of_a) (link_events both.of_b)
    addresses = reached_addressed p.node_a p.node_b p.node_b p.node_a met.joined.joined.reached (g.order_a few_a).rise (g.order_b few_b).rise

    known_a : Known both.a both.b
    known_a =
        let order = met.joined.placed.order in
        let head = (heads_stay run).0 in
        record {
          ready = ready_a (first_head p) (second_head p) (played_of both).nodes both.of_a both.of_b run
              (orderly both.of_a (g.order_a few_a) few_a) (orderly both.of_b (g.order_b few_b) few_b);
          bounded = sound_bounded (cut_half stations both.a.half) (cut_half stations both.b.half) order.of_a.sound order.of_b.sound;
          numbers = numbers_of links_world.a links_world.b bounds.0;
          addressed = subst (AreAddressed (links_of both.a.half).links (links_of both.b.half).links) (g.order_a few_a).top addresses.of_a.links;
          others = subst (AreAddressed (links_of both.b.half).links (links_of both.a.half).links) (g.order_b few_b).top addresses.of_b.links;
          head_own = subst (λ (x : Head). x.own < 2 ^ 16) (sym head) (word _ node_a);
          head_peer = subst (λ (x : Head). x.peer < 2 ^ 16) (sym head) (word _ node_b);
          node = addresses.at_a.node_is ∙ ap (λ (x : Head). x.own) (sym head);
          peer = addresses.at_a.peer_is ∙ ap (λ (x : Head). x.peer) (sym head);
        }

    facts_a : Facts both.a both.b
    facts_a =
        let order = met.joined.placed.order in
        record {
          known = known_a;
          from = λ k u at. let f = addresses.of_b.from k u at in
              (f.0 ∙ addresses.at_b.node_is ∙ sym addresses.at_a.peer_is, f.1 ∙ addresses.at_b.peer_is ∙ sym addresses.at_a.node_is);
          whole = is_lined _ _ _ _ all_sound.of_a all_sound.of_b all_owned.of_a all_owned.of_b (events_lined both.of_a g.made.lines_a)
              (events_lined both.of_b g.made.lines_b);
          lined = lines.1;
          reads = unit_reads both.b.half both.a.half order.of_b.sound;
          packets = λ k unit there. unit_content both.b.half both.a.half order.of_b.sound k unit there order.of_b.places met.joined.b_told
              met.b_read;
          near = comes_near both.a.half both.b.half met.joined.joined.front_a met.joined.joined.front_b
              (a_bounded Without (first_head p) (second_head p) (played_of both).nodes both.of_a both.of_b met) bounds.0;
        }

  pub later_a : (both : TrueEnds) → Going p (played_of both) → Later both.a both.b
  later_a both g e records makes order = facts_a (record both { a = e; of_a = both.of_a ++ records }) (record {
    made = more_of_a _ both.b.half both.of_a both.of_b makes g.made;
    order_a = λ once. subst (λ (n : ℕ). InOrder 0 n (both.of_a ++ records) e.addresses) (add-zero p.starts_a)
        (order_join 0 both.a.addresses e.addresses p.starts_a 0 both.of_a records (g.order_a once) order);
    order_b = g.order_b;
  })
