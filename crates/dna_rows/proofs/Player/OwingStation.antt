-- Worked rows of the player: what an end owes and sends as a station, each line of it decided by a row.
use Rattle.dna_rows.proofs.Prelude.{[], ◌∷◌, ◌++◌, codes, Timer, Send, Deliver, Refuse, Lose, Damage, Noise, Open, BadStep}
use Rattle.dna_play.specs.Script.{Start, Halt}
use Rattle.dna_rows.proofs.Units.{hex}
use Rattle.dna_rows.proofs.Scripts.{ASendsOne, BSendsOne, a, b, s, r, n, IsBad, ASends, BSends, Adds, Captures, StopsAt, running, called, playing}

record Rows : Type 0 where
  -- a start
  start_owes_strt : ASends (a Start ∷ []) (codes "0506c00000017595")
  -- the timer in ISTRT
  timer_in_istrt : ASends (a Start ∷ a Send ∷ a Timer ∷ []) (codes "0506c00000017595")
  -- once, however often it arose; and sending clears it
  strt_is_owed_once : IsBad (a Start ∷ a Timer ∷ a Send ∷ []) (a Send)
  -- in HALTED there is no timer
  timer_in_halted : IsBad [] (a Timer)
  -- a STRT that leads to ASTRT
  strt_brings_stack : BSends (a Start ∷ b Start ∷ a Send ∷ b Deliver ∷ []) (codes "0507c00000014855")
  -- sending clears it
  stack_is_cleared : IsBad (a Start ∷ b Start ∷ a Send ∷ b Deliver ∷ b Send ∷ []) (b Send)
  -- the timer in ASTRT
  timer_in_astrt : BSends (a Start ∷ b Start ∷ a Send ∷ b Deliver ∷ b Send ∷ b Timer ∷ []) (codes "0507c00000014855")
  -- a STRT in ASTRT
  strt_again_brings_stack : BSends (a Start ∷ b Start ∷ a Send ∷ a Timer ∷ a Send ∷ b Deliver ∷ b Send ∷ b Deliver ∷ []) (codes "0507c00000014855")
  -- a STACK that leads from ISTRT to RUNNING
  stack_in_istrt_brings_ack : ASends (a Start ∷ b Start ∷ a Send ∷ b Deliver ∷ b Send ∷ a Deliver ∷ []) (codes "050100000001fc55")
  -- a STACK that leads from ASTRT to RUNNING
  stack_in_astrt_brings_ack : ASends (a Start ∷ b Start ∷ a Send ∷ b Send ∷ a Deliver ∷ b Deliver ∷ a Send ∷ b Send ∷ a Deliver ∷ [])
      (codes "050100000001fc55")
  -- a STACK in RUNNING
  stack_in_running_brings_ack : ASends (a Start ∷ b Start ∷ a Send ∷ b Deliver ∷ b Send ∷ b Timer ∷ b Send ∷ a Deliver ∷ a Send ∷ a Deliver ∷ [])
      (codes "050100000001fc55")
  -- sending clears ACK
  ack_is_cleared : IsBad running (a Send)
  -- an ACK that leads to RUNNING brings nothing
  ack_in_astrt_owes_nothing : IsBad running (b Send)
  -- nor does an ACK in RUNNING
  ack_in_running_brings_nothing : IsBad (running ++ a Timer ∷ a Send ∷ b Deliver ∷ []) (b Send)
  -- nor a NAK where nothing is outstanding
  nak_brings_nothing : IsBad (running ++ b (Noise []) ∷ b Send ∷ a Deliver ∷ []) (a Send)
  -- the timer in RUNNING while nothing is outstanding
  timer_acknowledges : ASends (running ++ a Timer ∷ []) (codes "050100000001fc55")
  -- while a packet is outstanding
  timer_asks : ASends (running ++ a Open ∷ a Send ∷ a Timer ∷ []) (codes "0503000001018405")
  -- sending clears REP
  rep_is_cleared : IsBad (running ++ a Open ∷ a Send ∷ a Timer ∷ a Send ∷ []) (a Send)
  -- data that are taken, with a message for which the links owe nothing
  data_brings_ack : ASends (called ++ b Send ∷ a Deliver ∷ []) (codes "050100010001ad95")
  -- data with another number than the next
  data_out_of_order_bring_nothing : IsBad (running ++ a Open ∷ a Send ∷ a Open ∷ a Send ∷ b Lose ∷ b Deliver ∷ []) (b Send)
  -- a REP with NUM = R
  rep_of_the_last_brings_ack : BSends (called ++ b Send ∷ a Timer ∷ a Send ∷ b Deliver ∷ []) (codes "050100010001ad95")
  -- another REP
  other_rep_brings_nak : BSends (running ++ a Open ∷ a Send ∷ b Lose ∷ a Timer ∷ a Send ∷ b Deliver ∷ []) (codes "050203000001b811")
  -- a bad header
  bad_header_brings_nak : BSends (running ++ a Open ∷ a Send ∷ b (Damage 0 132) ∷ []) (codes "050201000001b9a9")
  -- noise with a bad header, and with bad data
  noise_brings_nak : BSends (running ++ b (Noise []) ∷ []) (codes "050201000001b9a9")
  noise_of_data_brings_nak : BSends (running ++ b (Noise (hex (codes "810100000101e381"))) ∷ []) (codes "050202000001b9ed")
  -- only in RUNNING
  noise_in_astrt_brings_nothing : IsBad (a Start ∷ b Start ∷ a Send ∷ b Deliver ∷ b Send ∷ b (Noise []) ∷ []) (b Send)
  -- it leaves the next unit on the line
  noise_leaves_the_line : Adds (a Start ∷ b Start ∷ a Send ∷ []) (b (Noise []) ∷ b Deliver ∷ [])
      (Captures [] (n [] ∷ r 0 (codes "0506c00000017595") ∷ []))
  -- bad data
  bad_data_bring_nak : BSends (running ++ a Open ∷ a Send ∷ b (Damage 9 1) ∷ []) (codes "050202000001b9ed")
  -- no buffer
  no_buffer_brings_nak : BSends (running ++ a Open ∷ a Send ∷ b Refuse ∷ []) (codes "050208000001ba35")
  -- sending clears it
  nak_is_cleared : IsBad (running ++ a Open ∷ a Send ∷ b Refuse ∷ b Send ∷ []) (b Send)
  -- data that lead from ASTRT to RUNNING count as in RUNNING
  no_buffer_in_astrt : BSends (a Start ∷ b Start ∷ a Send ∷ b Deliver ∷ b Send ∷ a Deliver ∷ a Open ∷ a Send ∷ b Refuse ∷ [])
      (codes "050208000001ba35")
  -- the lowest reason first, whatever came first
  lowest_nak_first : Adds
      (running ++ a Open ∷ a Send ∷ b Refuse ∷ a Timer ∷ a Send ∷ b Deliver ∷ a Open ∷ a Send ∷ b (Damage 9 1) ∷ a Timer ∷ a Send ∷ b (Damage 0 1) ∷
      []) (b Send ∷ b Send ∷ b Send ∷ b Send ∷ b Send ∷ [])
      (StopsAt 4 BadStep []
      (s (codes "050201000001b9a9") ∷ s (codes "050202000001b9ed") ∷ s (codes "050203000001b811") ∷ s (codes "050208000001ba35") ∷ []))
  -- NAK before REP
  nak_before_rep : Adds (running ++ b Open ∷ b Send ∷ b Timer ∷ a Open ∷ a Send ∷ b Refuse ∷ []) (b Send ∷ b Send ∷ [])
      (Captures [] (s (codes "050208000001ba35") ∷ s (codes "0503000001018405") ∷ []))
  -- REP before data
  rep_before_data : Adds (running ++ b Open ∷ b Send ∷ b Timer ∷ b Open ∷ []) (b Send ∷ b Send ∷ [])
      (Captures [] (s (codes "0503000001018405") ∷ s (codes "810f000002018ab0020104020400180000020001020002eaac") ∷ []))
  -- data before ACK, which they clear
  data_before_ack : BSendsOne called (codes "81090001010153800201040204002401002cd5")
  -- a NAK clears ACK
  nak_clears_ack : BSendsOne (running ++ b Open ∷ b Send ∷ a Deliver ∷ a Send ∷ a Open ∷ a Send ∷ b Deliver ∷ b Refuse ∷ [])
      (codes "050208010001ebf5")
  -- a number that is given again clears ACK
  data_again_clears_ack : ASendsOne
      (running ++ a Open ∷ a Open ∷ a Send ∷ a Send ∷ b Deliver ∷ b Refuse ∷ b Send ∷ b Send ∷ a Deliver ∷ a Deliver ∷ [])
      (codes "810f00010201db70020204010400180000020001020002edab")
  -- a number that was given before a new one
  given_numbers_first : Adds (running ++ a Open ∷ a Send ∷ a Open ∷ b Refuse ∷ b Send ∷ a Deliver ∷ []) (a Send ∷ a Send ∷ [])
      (Captures
      (s (codes "810f000001018a40020204010400180000010001020002ed98") ∷ s (codes "810f000002018ab0020204010400180000020001020002edab") ∷ []) [])
  -- no REP once all is acknowledged
  rep_is_dropped : ASendsOne (running ++ a Open ∷ a Send ∷ a Timer ∷ b Deliver ∷ b Send ∷ a Deliver ∷ []) (codes "050100010001ad95")
  -- while something is outstanding it stays owed
  rep_stays_owed : ASends (running ++ a Open ∷ a Send ∷ a Open ∷ a Send ∷ a Timer ∷ b Deliver ∷ b Send ∷ a Deliver ∷ []) (codes "05030000020184f5")
  -- a REP clears no ACK
  rep_clears_no_ack : Adds (running ++ a Open ∷ a Send ∷ a Open ∷ a Send ∷ a Timer ∷ b Deliver ∷ b Send ∷ a Deliver ∷ [])
      (a Send ∷ a Send ∷ a Send ∷ []) (StopsAt 2 BadStep (s (codes "05030000020184f5") ∷ s (codes "050100010001ad95") ∷ []) [])
  -- a state that was left drops what was owed: here NAK 8, over a halt and a new start of both
  halt_drops : IsBad
      (running ++ b Open ∷ b Send ∷ a Refuse ∷ a Halt ∷ a Start ∷ a Send ∷ b Deliver ∷ b Start ∷ b Send ∷ a Deliver ∷ a Send ∷ b Deliver ∷ b Send ∷
      a Deliver ∷ []) (a Send)
  -- the same where a STRT halts the station
  strt_drops : ASendsOne
      (running ++ b Open ∷ b Send ∷ a Refuse ∷ b Halt ∷ b Start ∷ b Send ∷ a Deliver ∷ a Start ∷ a Send ∷ b Deliver ∷ b Send ∷ a Deliver ∷ [])
      (codes "050100000001fc55")
  -- a halt leaves the units on the line
  units_stay_over_a_halt : Adds (a Start ∷ b Start ∷ a Send ∷ a Halt ∷ []) (b Deliver ∷ []) (Captures [] (r 0 (codes "0506c00000017595") ∷ []))

computed : Rows
unfolding playing
computed = search
