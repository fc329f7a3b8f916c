-- In every run over both layers the message at a place is what is read of the packet given there; so it is what is read of the packet in each data
-- message.
use Rattle.std.proofs.Common.{◌≡◌, ℕ, ◌⊎◌, inl, inr, true, Option, Some, None, Ok, List, [], ◌∷◌, ◌++◌, length, sym, subst, arith}
use Rattle.std.specs.Prelude.{slice_get}
use Rattle.std.proofs.lemmas.Option.{slice_get_within}
use Rattle.two_nodes.specs.Nodes.{Half, World}
use Rattle.two_nodes.specs.Kept.{IsKept}
use Rattle.ddcmp_msg.specs.Message.{MessageValue, Data}
use Rattle.capture_record.specs.Fates.{is_kept}
use Rattle.capture_record.specs.declared.record.Record.{Record}
use Rattle.dna_station.specs.declared.head.Head.{Head}
use Rattle.dna_station.specs.declared.state.StationEvent.TheVariants.{Start, Halt}
use Rattle.dna_links.specs.declared.queue.Queues.{Queues}
use Rattle.dna_node.specs.TagRules.{judged_by}
use Rattle.dna_station.specs.Station.{all_given, after_event}
use Rattle.dna_station.specs.Truth.{Truth}
use Rattle.dna_station.specs.Book.{body_of}
use Rattle.dna_station.specs.StationBook.{after_sending, after_arrival}
use Rattle.dna_station.specs.Delivery.{CarriesItsPacket}
use Rattle.dna_links.specs.Links.{Carried}
use Rattle.dna_links.specs.TrueLinks.{Links}
use Rattle.dna_links.specs.Runs.{SentMessage}
use Rattle.dna_node.specs.Content.{content}
use Rattle.dna_node.specs.Layers.{LayersNode, LayersUnit, to_station}
use Rattle.dna_node.specs.LayersPair.{layers_pair_by, layers_start}
use Rattle.two_nodes.proofs.NumberedSteps.{at_pushed}
use Rattle.dna_station.proofs.Bounds.Numbers.{is_data}
use Rattle.dna_node.proofs.OnTop.{FirstSent, NoMessage, Message, OnTop, ByStation, ByLinks, ByBoth, Composed, Carries, Again, First, Receipt}
use Rattle.dna_node.proofs.OnTop.{Counted, Unheard}
use Rattle.dna_node.proofs.Follows.{follows}
use Rattle.dna_node.proofs.Joined.{given_start, given_arrival, given_first, given_again, AreTold, LayersJoined}
use Rattle.dna_node.proofs.Joined.{joined_exchanged, joined_kept, start_joined}
use Rattle.dna_node.proofs.Alike.{IsExchangeable, IsKeptByA, kept_alike}

-- what is read of a packet that was first sent
abbrev pub packet_in : Option SentMessage → Option Carried
packet_in None = None
packet_in (Some message) = Some message.packet

abbrev AreReadAs : List (Option SentMessage) → List (List ℕ) → Type 0
AreReadAs messages packets = (place : ℕ) (carried : Option SentMessage) (body : List ℕ) →
    slice_get messages place ≡ Some carried → slice_get packets place ≡ Some body → content body ≡ Ok (packet_in carried)

abbrev pub AreRead : Half LayersNode LayersUnit → Type 0
AreRead own = AreReadAs own.state.station.messages (all_given own.state.station.station)

first_read : (queues : Queues) (links left : Links) (body : List ℕ) (carried : Option SentMessage) → FirstSent queues links body left carried →
    content body ≡ Ok (packet_in carried)
first_read queues links left body carried (NoMessage read) = read
first_read queues links left body carried (Message packet made read done) = read

-- one more of each
read_more : (messages : List (Option SentMessage)) (packets : List (List ℕ)) (carried : Option SentMessage) (body : List ℕ) →
    length messages ≡ length packets → content body ≡ Ok (packet_in carried) →
    AreReadAs messages packets → AreReadAs (messages ++ carried ∷ []) (packets ++ body ∷ [])
read_more messages packets carried body same this before place x b at_x at_b =
    go (at_pushed messages carried x place at_x) (at_pushed packets body b place at_b)
  where
    go : (slice_get messages place ≡ Some x) ⊎ ((place ≡ length messages) × (carried ≡ x)) →
        (slice_get packets place ≡ Some b) ⊎ ((place ≡ length packets) × (body ≡ b)) → content b ≡ Ok (packet_in x)
    go (inl one) (inl two) = before place x b one two
    go (inl one) (inr two) = let l = slice_get_within messages place x one in let e = two.0 in absurd (omega arith)
    go (inr one) (inl two) = let l = slice_get_within packets place b two in let e = one.0 in absurd (omega arith)
    go (inr one) (inr two) =
        subst (λ (y : Option SentMessage). content b ≡ Ok (packet_in y)) one.1 (subst (λ (y : List ℕ). content y ≡ Ok (packet_in carried)) two.1 this)

module _ (queues : Queues) where
  module _ (own other : Half LayersNode LayersUnit) (t : AreTold own) (before : AreRead own) where
    packets_same : (packets : List (List ℕ)) → packets ≡ all_given own.state.station.station → AreReadAs own.state.station.messages packets
    packets_same packets same = subst (AreReadAs own.state.station.messages) (sym same) before

    pub read_left : (r : Record) (h : Half LayersNode LayersUnit) → OnTop (judged_by queues) own other r h → AreRead h
    read_left r h (Counted bytes reason) = before
    read_left r h (Unheard bytes) = before
    read_left r h (ByStation Start) = packets_same (all_given (after_event own.state.station.station Start)) (given_start own.state.station.station)
    read_left r h (ByStation Halt) = before
    read_left r h (ByLinks event of_links links is done) = before
    read_left r h (ByBoth links done) = before
    read_left r h (Composed body packet made done) = before
    read_left r h (Carries event none) = before
    read_left r h (Again bytes m old) =
        packets_same (all_given (after_sending own.state.station.station m)) (given_again own.state.station.station m old)
    read_left r h (First bytes m new links carried made) =
        subst (AreReadAs (own.state.station.messages ++ carried ∷ [])) (sym (given_first own.state.station.station m new))
        (read_more own.state.station.messages (all_given own.state.station.station) carried (body_of m) t.counted
        (first_read queues own.state.station.links links (body_of m) carried made) before)
    read_left r h (Receipt hint fate bytes unit arrival there links met) =
        packets_same (all_given (after_arrival own.state.station.station (to_station arrival) (is_kept fate)))
        (given_arrival own.state.station.station (to_station arrival) (is_kept fate))

  -- ---- a data message

  pub body_read : (m : MessageValue) (u : Truth) (messages : List (Option SentMessage)) (packets : List (List ℕ)) (carried : Option SentMessage) →
      AreReadAs messages packets → is_data m ≡ true → CarriesItsPacket packets m u → slice_get messages u.place ≡ Some carried →
      content (body_of m) ≡ Ok (packet_in carried)
  body_read (Data flags resp num body) u messages packets carried read d at told = read u.place carried body told at
  body_read m u messages packets carried read d at told = absurd cc

  -- ---- in every run

  pub record LayersRead (head_a head_b : Head) (w : World LayersNode LayersUnit) (of_a of_b : List Record) : Type 0 where
    pub joined : LayersJoined queues head_a head_b w of_a of_b
    pub a_read : AreRead w.a
    pub b_read : AreRead w.b

  abbrev pub read_exchanged : IsExchangeable queues LayersRead
  read_exchanged head_a head_b w of_a of_b c =
      record { joined = joined_exchanged queues head_a head_b w of_a of_b c.joined; a_read = c.b_read; b_read = c.a_read }

  read_by_a : IsKeptByA queues LayersRead
  read_by_a head_a head_b w made_a made_b r h c made = record {
    joined = (joined_kept queues head_a head_b).by_a w made_a made_b r h c.joined made;
    a_read = read_left w.a w.b c.joined.a_told c.a_read r h (follows (judged_by queues) w.a w.b h r made).links;
    b_read = c.b_read;
  }

  module _ (head_a head_b : Head) where
    pub read_kept : IsKept (layers_pair_by queues) (LayersRead head_a head_b)
    read_kept = kept_alike queues LayersRead read_exchanged read_by_a head_a head_b

    pub start_read : LayersRead head_a head_b (layers_start head_a head_b) [] []
    start_read = record {
      joined = start_joined queues head_a head_b;
      a_read = λ place carried body there at. absurd cc;
      b_read = λ place carried body there at. absurd cc;
    }
