-- What the rows of `Table` come to at the links of a node, for private contracts and for proofs: each word here is by its meaning what the rows
-- give, once the event or the message is known.
use Rattle.std.specs.Prelude.{ℕ, Bool, true, false, ◌==◌, if◌then◌else◌, Option, Some, None, ok_or, Result, Ok, Err}
use Rattle.dna_packet.specs.Nsp.{SegmentValue}
use Rattle.dna_station.specs.declared.link_refusal.LinkRefusal.{LinkRefusal}
use Rattle.dna_station.specs.declared.link_refusal.LinkRefusal.TheVariants.{NoLink, LinkState, WrongDelivery, AddressInUse, CrossedLink}
use Rattle.dna_links.specs.Queues.{fresh, ended, freed}
use Rattle.dna_links.specs.declared.queue.Queues.TheVariants.{Without}
use Rattle.dna_links.specs.declared.tag.LinkTag.{LinkTag}
use Rattle.dna_links.specs.declared.port.Phase.{Phase}
use Rattle.dna_links.specs.declared.port.Phase.TheVariants.{Calling, Called, Running}
use Rattle.dna_links.specs.declared.port.LinkTest.{LinkTest}
use Rattle.dna_links.specs.declared.port.LinkTest.TheVariants.{LiveAt, TheLink, CallingAt, CalledBy, ActedOn}
use Rattle.dna_links.specs.LookUps.{is_running}
use Rattle.dna_links.specs.SegmentBook.{SegmentBook, Sending}
use Rattle.dna_links.specs.Links.{LinkOf, LinksOf, LinkTruth, check, with_link, changed, in_phase, with_segments}
use Rattle.dna_links.specs.LinkBook.{on_ok}
use Rattle.dna_links.specs.Sending.{Sent}
use Rattle.dna_links.specs.Arriving.{PartnerRule, is_of_pair}

module _ {D K : Type 0} (book : SegmentBook D K) where
  -- ---- the user

  -- a link that is opened here: in Calling, with this own address
  abbrev pub opened : (own : ℕ) → LinkOf D
  opened own = record {
    port = record { phase = Calling; opened = true; own = Some own; far = None };
    partner = None;
    segsize = 0;
    segments = book.empty;
    queue = fresh;
  }

  -- the call is answered: the link gets this own address, and this phase
  abbrev pub answered : Phase → (own : ℕ) → LinkOf D → LinkOf D
  answered phase own link = record link { port = record link.port { phase = phase; own = Some own } }

  -- an address that a live link has can't be given: 26
  abbrev pub gives : (own : ℕ) → LinksOf D → LinksOf D → Result (LinksOf D) LinkRefusal
  gives own s next = with_link (LiveAt own) s (Ok next) (λ number link. Err AddressInUse)

  -- the call from this far address: 18 if no link in Called has it
  abbrev pub answers : Phase → (far own : ℕ) → LinksOf D → Result (LinksOf D) LinkRefusal
  answers phase far own s =
      with_link (CalledBy far) s (Err NoLink) (λ number link. gives own s (changed number (answered phase own link) (freed book Without own s)))

  -- a message is delivered if it is the next whole one
  abbrev pub delivered : ℕ → LinkOf D → LinksOf D → Option D → Result (LinksOf D) LinkRefusal
  delivered number link s left = on_ok (ok_or left WrongDelivery) (λ d. Ok (changed number (with_segments d link) s))

  -- ---- what is sent

  -- a message of no link changes nothing
  abbrev pub of_no_link : LinksOf D → Sent D K
  of_no_link s = record { links = s; truth = record { tag = record { link = None; partner = None }; known = book.sends_other book.empty } }

  -- a message of this link, the number of which is given
  abbrev pub truth_of : ℕ → LinkOf D → K → LinkTruth K
  truth_of number link known = record { tag = record { link = Some number; partner = link.partner }; known = known }

  -- one that changes nothing
  abbrev pub unchanged : LinksOf D → ℕ → LinkOf D → Sent D K
  unchanged s number link = record { links = s; truth = truth_of number link (book.sends_other link.segments) }

  -- one that ends the link
  abbrev pub ending : LinksOf D → ℕ → LinkOf D → Sent D K
  ending s number link = record { links = changed number (ended book link) s; truth = truth_of number link (book.sends_other link.segments) }

  -- a message that changes nothing: the link that this test finds, else 18; in a phase of this kind, else 19
  abbrev pub in_its_phase : LinkTest → (Phase → Bool) → LinksOf D → Result (Sent D K) LinkRefusal
  in_its_phase test is_right s =
      with_link test s (Err NoLink) (λ number link. check (is_right link.port.phase) LinkState (Ok (unchanged s number link)))

  -- DC of no live link: with SRCADDR 0 the link in Called with that far address, if there is one, is ended
  abbrev pub confirms_end : LinksOf D → (src dst : ℕ) → Result (Sent D K) LinkRefusal
  confirms_end s src dst =
      if src == 0 then with_link (CalledBy dst) s (Ok (of_no_link s)) (λ number link. Ok (ending s number link)) else Ok (of_no_link s)

  abbrev pub carried : LinksOf D → ℕ → LinkOf D → Sending D K → Sent D K
  carried s number link sent = record { links = changed number (with_segments sent.segments link) s; truth = truth_of number link sent.known }

  -- what a message of a link in RUN makes of its segments
  abbrev pub carries : LinksOf D → ℕ → LinkOf D → Result (Sending D K) LinkRefusal → Result (Sent D K) LinkRefusal
  carries s number link result = on_ok result (λ sent. Ok (carried s number link sent))

  -- a segment, or acknowledgement words alone: the link, else 18; in RUN, else 19; then the rules on numbers
  abbrev pub in_run : (src dst : ℕ) → (LinkOf D → Result (Sending D K) LinkRefusal) → LinksOf D → Result (Sent D K) LinkRefusal
  in_run src dst sends s =
      with_link (TheLink src dst) s (Err NoLink) (λ number link. check (is_running link.port.phase) LinkState (carries s number link (sends link)))

  abbrev pub segment_of : SegmentValue → LinkOf D → Result (Sending D K) LinkRefusal
  segment_of segment link = book.sends_segment link.segsize segment link.segments

module _ {D K : Type 0} (book : SegmentBook D K) (rule : PartnerRule) where
  -- ---- what comes

  -- a link that a CI begins: in Called, with that far address; its partner is the sender, its SEGSIZE the CI's
  abbrev pub called : (far segsize : ℕ) → LinkTag → LinkOf D
  called far segsize tag = record {
    port = record { phase = Called; opened = false; own = None; far = Some far };
    partner = tag.link;
    segsize = segsize;
    segments = book.empty;
    queue = fresh;
  }

  -- CC: to RUN with the sender as partner, its address and its SEGSIZE
  abbrev pub confirmed : (far segsize : ℕ) → LinkTag → LinkOf D → LinkOf D
  confirmed far segsize tag link = record link {
    port = record link.port { phase = Running; far = Some far };
    partner = tag.link;
    segsize = segsize;
  }

  -- DI, DC: the link, or the one in Calling with the own address, is ended; and as an answer
  abbrev pub ends_link : (own far : ℕ) → LinksOf D → LinksOf D
  ends_link own far s =
      with_link (TheLink own far) s (with_link (CallingAt own) s s (λ number link. changed number (ended book link) s))
      (λ number link. changed number (ended book link) s)

  abbrev pub ends_by : (own far : ℕ) → LinksOf D → Result (LinksOf D) LinkRefusal
  ends_by own far s =
      with_link (TheLink own far) s (with_link (CallingAt own) s (Ok s) (λ number link. Ok (changed number (ended book link) s)))
      (λ number link. Ok (changed number (ended book link) s))

  -- Confirming goes to RUN; then what the message does to the segments
  abbrev pub running : (LinkOf D → D) → LinkOf D → LinkOf D
  running takes link = with_segments (takes link) (in_phase Running link)

  -- segment, data ack, link service, interrupt, other-data ack: the link in Confirming or RUN; of this pair, else 25
  abbrev pub acted_on : (own far : ℕ) → LinkTag → (LinkOf D → D) → LinksOf D → Result (LinksOf D) LinkRefusal
  acted_on own far tag takes s = with_link (ActedOn own far) s (Ok s) (λ number link.
      check (rule (is_of_pair number link.partner tag)) CrossedLink (Ok (changed number (running takes link) s)))
