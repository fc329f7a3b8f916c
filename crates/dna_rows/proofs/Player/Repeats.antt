-- Worked rows of the player: what its links send again, what they drop with a phase, and in which order they go.
use Rattle.dna_rows.proofs.Prelude.{[], ◌∷◌, ◌++◌, codes, User, Send, Deliver, Open, Accept, Reject, Close, Retry, BadStep}
use Rattle.capture_record.specs.declared.event.Event.TheVariants as event
use Rattle.dna_play.specs.Script.{In}
use Rattle.dna_rows.proofs.Scripts.{ASendsOne, BSendsOne, a, b, s, k, IsBad, ASends, Adds, Captures, StopsAt, running, called, accepted, linked}
use Rattle.dna_rows.proofs.Scripts.{rejected, playing}

record TimerRows : Type 0 where
  -- the timer in Confirming
  cc_is_repeated : BSendsOne (accepted ++ b (Retry 1) ∷ []) (codes "8110000102014eb20201040204002801000100010200020013e0")
  -- the timer in DI
  di_is_repeated : BSendsOne (rejected ++ b (Retry 1) ∷ []) (codes "810e00010201e6b002010402040038010001000000009553")
  -- the timer in RUN: all that is outstanding goes again, lowest first
  segments_are_repeated : Adds (linked ++ a (In 1 (codes "a")) ∷ a (In 1 (codes "b")) ∷ a Send ∷ a Send ∷ a (Retry 1) ∷ [])
      (a Send ∷ a Send ∷ a Send ∷ [])
      (StopsAt 2 BadStep
      (s (codes "810e00010501e48002020401040060010001000100610b66") ∷ s (codes "810e00010601e4700202040104006001000100020062bb67") ∷ []) [])
  -- save those acknowledged before their turn
  acknowledged_segments_are_not : ASendsOne
      (linked ++ a (In 1 (codes "a")) ∷ a (In 1 (codes "b")) ∷ a (In 1 (codes "c")) ∷ a Send ∷ a Send ∷ a Send ∷ a (Retry 1) ∷ a Send ∷ b Deliver ∷
      b Deliver ∷ b Send ∷ a Deliver ∷ []) (codes "810e0002070115e002020401040060010001000300632b67")
  -- a timer while repeats are left: all that is not acknowledged goes again
  repeats_begin_anew : Adds (linked ++ a (In 1 (codes "a")) ∷ a (In 1 (codes "b")) ∷ a Send ∷ a Send ∷ a (Retry 1) ∷ a Send ∷ a (Retry 1) ∷ [])
      (a Send ∷ a Send ∷ a Send ∷ [])
      (StopsAt 2 BadStep
      (s (codes "810e00010601e47002020401040060010001000100610b66") ∷ s (codes "810e00010701e5e00202040104006001000100020062bb67") ∷ []) [])
  -- a timer with nothing outstanding
  nothing_to_repeat : IsBad (linked ++ a (Retry 1) ∷ []) (a Send)

timer_computed : TimerRows
unfolding playing
timer_computed = search

record DroppedRows : Type 0 where
  -- a link that leaves Called drops the connect ack: here by a reject
  connect_ack_is_dropped : IsBad (called ++ b (Reject 1) ∷ b Send ∷ []) (b Send)
  -- one that leaves Calling drops CI: here to RUN
  ci_is_dropped : ASendsOne (accepted ++ a (Retry 1) ∷ a Deliver ∷ []) (codes "810d00010201a2b002020401040004010001000080ccfd")
  -- here to its end
  ci_is_dropped_at_the_end : ASendsOne (rejected ++ a (Retry 1) ∷ a Deliver ∷ []) (codes "810d00010201a2b002020401040048010001002a005ff9")
  -- one that leaves Confirming drops CC: here to RUN
  cc_is_dropped : BSendsOne (accepted ++ b (Retry 1) ∷ a Deliver ∷ a Send ∷ b Deliver ∷ []) (codes "0501000200015d95")
  -- here to DI
  cc_is_dropped_at_the_close : BSendsOne (called ++ b (Accept 1) ∷ b (Close 1) ∷ []) (codes "810e00010101e64002010402040038010001000000009553")
  -- one that leaves RUN drops the data ack
  data_ack_is_dropped : BSendsOne (linked ++ a (In 1 (codes "a")) ∷ a Send ∷ b Deliver ∷ b (Close 1) ∷ [])
      (codes "810e00030201477002010402040038010001000000009553")
  -- one that ends drops DI: here by a DC
  di_is_dropped : BSendsOne (rejected ++ a Deliver ∷ a Send ∷ b (Retry 1) ∷ b Deliver ∷ []) (codes "0501000200015d95")
  -- here by the DI of the other side
  di_is_dropped_by_di : BSendsOne (linked ++ a (Close 1) ∷ b (Close 1) ∷ a Send ∷ b Deliver ∷ [])
      (codes "810d00030201037002010402040048010001002a00abf2")

dropped_computed : DroppedRows
unfolding playing
dropped_computed = search

record OrderRows : Type 0 where
  -- DCs come before the links
  dcs_first : Adds (rejected ++ a Open ∷ a Deliver ∷ []) (a Send ∷ a Send ∷ [])
      (Captures (s (codes "810d00010201a2b002020401040048010001002a005ff9") ∷ s (codes "810f00010301dae0020204010400180000020001020002edab") ∷ []) [])
  -- links in the order in which they began
  links_in_order : Adds (running ++ a Open ∷ a Open ∷ []) (a Send ∷ a Send ∷ a Send ∷ [])
      (StopsAt 2 BadStep
      (s (codes "810f000001018a40020204010400180000010001020002ed98") ∷ s (codes "810f000002018ab0020204010400180000020001020002edab") ∷ []) [])
  -- which is not that of their addresses
  links_not_by_address : Adds (running ++ a Open ∷ a Open ∷ a Send ∷ a Send ∷ b Deliver ∷ b Deliver ∷ b (Accept 2) ∷ []) (b Send ∷ b Send ∷ [])
      (Captures [] (s (codes "810900020101a3800201040204002401002cd5") ∷ s (codes "811000020201beb2020104020400280200010001020002000710") ∷ []))
  -- a data ack before a segment
  data_ack_before_segment : Adds (linked ++ b (In 1 (codes "b")) ∷ a (In 1 (codes "a")) ∷ a Send ∷ b Deliver ∷ []) (b Send ∷ b Send ∷ [])
      (Captures [] (s (codes "810d000302010370020104020400040100010001803966") ∷ s (codes "810e0003030146e0020104020400600100010001006241e0") ∷ []))
  -- a repeat before a new segment
  repeat_before_new : Adds (linked ++ a (In 1 (codes "a")) ∷ a Send ∷ a (In 1 (codes "b")) ∷ a (Retry 1) ∷ []) (a Send ∷ a Send ∷ [])
      (Captures (s (codes "810e00010401e51002020401040060010001000100610b66") ∷ s (codes "810e00010501e4800202040104006001000100020062bb67") ∷ []) [])
  -- no segment goes in Calling
  no_segment_in_calling : IsBad (running ++ a Open ∷ a (In 1 (codes "a")) ∷ a Send ∷ []) (a Send)
  -- nor in Confirming
  no_segment_in_confirming : IsBad (called ++ b (Accept 1) ∷ b (In 1 (codes "a")) ∷ b Send ∷ []) (b Send)
  -- what was handed in goes in RUN
  what_was_handed_in_early : ASends (accepted ++ a (In 1 (codes "a")) ∷ a Deliver ∷ a Send ∷ [])
      (codes "810e00010301e72002020401040060010001000100610b66")
  -- an empty message is one piece, and is delivered
  empty_message : Adds (linked ++ a (In 1 []) ∷ a Send ∷ []) (b Deliver ∷ [])
      (Captures [] (k 4 (codes "810d00010301a32002020401040060010001000100e90b") ∷ User (event.Up 1 []) ∷ []))
  -- each message is delivered with its last segment
  messages_one_by_one : Adds (linked ++ a (In 1 (codes "ab")) ∷ a (In 1 (codes "c")) ∷ a Send ∷ a Send ∷ []) (b Deliver ∷ b Deliver ∷ [])
      (Captures []
      (k 4 (codes "810f00010301dae0020204010400600100010001006162a62e") ∷ User (event.Up 1 (codes "ab")) ∷
      k 5 (codes "810e00010401e51002020401040060010001000200637aa7") ∷ User (event.Up 1 (codes "c")) ∷ []))

order_computed : OrderRows
unfolding playing
order_computed = search
