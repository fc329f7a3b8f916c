-- Worked rows of the player: a node starts anew, a call is given up, and a packet is kept and lost before the links.
use Rattle.dna_rows.proofs.Prelude.{List, [], ◌∷◌, ◌++◌, codes, User, ScriptStep, Timer, Send, Deliver, Drop, Lose, Noise, Open, Accept, Close}
use Rattle.dna_rows.proofs.Prelude.{Abort, Retry}
use Rattle.capture_record.specs.declared.event.Event.TheVariants as event
use Rattle.dna_play.specs.Script.{Start, Halt, Boot, In}
use Rattle.dna_rows.proofs.Scripts.{a, b, s, r, d, BSendsOne, IsBad, Adds, Captures, running, called, accepted, confirmed, linked, playing}

-- the call of a's link 1 is on the line
abbrev calling : List ScriptStep
calling = running ++ a Open ∷ a Send ∷ []

-- it was kept at b, and lost before b's links
abbrev lost_call : List ScriptStep
lost_call = calling ++ b Drop ∷ []

record Boots : Type 0 where
  -- in every state
  boots_always : Adds [] (a Boot ∷ a Start ∷ a Boot ∷ a Boot ∷ [])
      (Captures (User event.Boot ∷ User event.Start ∷ User event.Boot ∷ User event.Boot ∷ []) [])
  boots_in_running : Adds running (a Boot ∷ []) (Captures (User event.Boot ∷ []) [])
  -- its station is halted, and owes nothing
  halted_by_a_boot : IsBad (a Start ∷ a Boot ∷ []) (a Timer)
  nothing_owed : IsBad (a Start ∷ a Boot ∷ []) (a Send)
  starts_after_a_boot : Adds (running ++ a Boot ∷ []) (a Start ∷ a Send ∷ [])
      (Captures (User event.Start ∷ s (codes "0506c00000017595") ∷ []) [])
  -- its links are over
  no_link_to_close : IsBad (linked ++ a Boot ∷ []) (a (Close 1))
  no_link_to_hand_in : IsBad (linked ++ a Boot ∷ []) (a (In 1 []))
  no_link_to_retry : IsBad (running ++ a Open ∷ a Boot ∷ []) (a (Retry 1))
  no_call_to_answer : IsBad (called ++ b Boot ∷ []) (b (Accept 1))
  -- those of the other side are not
  partner_stays : Adds (linked ++ a Boot ∷ []) (b (Close 1) ∷ []) (Captures [] (User (event.Close 1) ∷ []))
  -- the first address is given again
  addresses_are_free : Adds (running ++ a Open ∷ a Open ∷ a Boot ∷ []) (a Open ∷ []) (Captures (User (event.Open 1) ∷ []) [])
  -- what is on the line stays, and units are counted on
  line_stays : Adds (a Start ∷ a Send ∷ b Boot ∷ []) (b Deliver ∷ []) (Captures [] (r 0 (codes "0506c00000017595") ∷ []))
  counted_on : Adds (a Start ∷ a Send ∷ b Deliver ∷ b Boot ∷ a Timer ∷ a Send ∷ []) (b Deliver ∷ [])
      (Captures [] (r 1 (codes "0506c00000017595") ∷ []))

record Aborts : Type 0 where
  call_given_up : Adds (running ++ a Open ∷ []) (a (Abort 1) ∷ []) (Captures (User (event.Abort 1) ∷ []) [])
  -- also after the call was sent, and after its acceptance was
  given_up_late : Adds accepted (a (Abort 1) ∷ []) (Captures (User (event.Abort 1) ∷ []) [])
  -- it owes nothing then, and is over
  nothing_owed : IsBad (running ++ a Open ∷ a (Abort 1) ∷ []) (a Send)
  given_up_twice : IsBad (running ++ a Open ∷ a (Abort 1) ∷ []) (a (Abort 1))
  no_link_to_retry : IsBad (running ++ a Open ∷ a (Abort 1) ∷ []) (a (Retry 1))
  -- its address is not given again
  next_address : Adds (running ++ a Open ∷ a (Abort 1) ∷ []) (a Open ∷ []) (Captures (User (event.Open 2) ∷ []) [])
  -- no link has this address, or it is not calling: it has the answer, or was accepted here, or is closed
  no_link : IsBad running (a (Abort 1))
  after_the_answer : IsBad confirmed (a (Abort 1))
  accepted_here : IsBad accepted (b (Abort 1))
  in_run : IsBad linked (b (Abort 1))
  after_the_close : IsBad (linked ++ a (Close 1) ∷ []) (a (Abort 1))

record Drops : Type 0 where
  -- the call is kept, and no link is called; the station acknowledges it
  call_lost : Adds calling (b Drop ∷ [])
      (Captures [] (d 2 (codes "810f000001018a40020204010400180000010001020002ed98") ∷ []))
  not_called : IsBad lost_call (b (Accept 1))
  acknowledged : BSendsOne lost_call (codes "050100010001ad95")
  -- its repeat is met
  repeat_met : Adds (lost_call ++ a (Retry 1) ∷ a Send ∷ b Deliver ∷ []) (b (Accept 1) ∷ []) (Captures [] (User (event.Accept 1 1) ∷ []))
  -- nothing is on the line; the unit has no packet; the station is halted; the packet came before, or is not the next
  nothing_on_the_line : IsBad running (b Drop)
  no_packet : IsBad (a Start ∷ b Start ∷ a Send ∷ []) (b Drop)
  station_halted : IsBad (calling ++ b Halt ∷ []) (b Drop)
  came_before : IsBad (calling ++ b (Noise []) ∷ b Send ∷ a Deliver ∷ a Send ∷ b Deliver ∷ []) (b Drop)
  not_the_next : IsBad (calling ++ a Open ∷ a Send ∷ b Lose ∷ []) (b Drop)

boots_computed : Boots
unfolding playing
boots_computed = search

aborts_computed : Aborts
unfolding playing
aborts_computed = search

drops_computed : Drops
unfolding playing
drops_computed = search
