-- Worked rows of the player: what the links of an end owe, each line of it decided by a row.
use Rattle.dna_rows.proofs.Prelude.{[], ◌∷◌, ◌++◌, codes, User, Send, Deliver, Open, Accept, Reject, Close, Retry, BadStep}
use Rattle.capture_record.specs.declared.event.Event.TheVariants as event
use Rattle.dna_play.specs.Script.{In}
use Rattle.dna_rows.proofs.Scripts.{ASendsOne, BSendsOne, a, b, s, k, IsBad, ASends, BSends, Adds, Captures, StopsAt, running, called, accepted}
use Rattle.dna_rows.proofs.Scripts.{linked, rejected, playing}

record CallRows : Type 0 where
  -- a link that is opened
  open_owes_ci : ASends (running ++ a Open ∷ []) (codes "810f000001018a40020204010400180000010001020002ed98")
  -- sending clears CI
  ci_is_cleared : IsBad (running ++ a Open ∷ a Send ∷ []) (a Send)
  -- its timer once a CI was sent: repeated
  ci_is_repeated : ASends (running ++ a Open ∷ a Send ∷ a (Retry 1) ∷ []) (codes "810f000002018ab0020204010400680000010001020002885a")
  -- its timer before: as new, and once
  ci_is_new_until_sent : ASendsOne (running ++ a Open ∷ a (Retry 1) ∷ []) (codes "810f000001018a40020204010400180000010001020002ed98")
  -- a CI of a new link
  ci_brings_connect_ack : BSends called (codes "81090001010153800201040204002401002cd5")
  -- sending clears it
  connect_ack_is_cleared : IsBad (called ++ b Send ∷ []) (b Send)
  -- a CI that comes again in Called
  ci_in_called_brings_connect_ack : BSends (called ++ b Send ∷ a (Retry 1) ∷ a Send ∷ b Deliver ∷ []) (codes "810900020201a3700201040204002401002cd5")
  -- the user accepts: CC in place of a connect ack
  accept_owes_cc : BSendsOne (called ++ b (Accept 1) ∷ []) (codes "8110000101014e420201040204002801000100010200020013e0")
  -- a CI that comes again in Confirming
  ci_in_confirming_brings_cc : BSends (accepted ++ a (Retry 1) ∷ a Send ∷ b Deliver ∷ [])
      (codes "811000020201beb20201040204002801000100010200020013e0")
  -- a CI that comes again in DI: the ACK of its data alone
  ci_in_di_brings_nothing : BSends (rejected ++ a (Retry 1) ∷ a Send ∷ b Deliver ∷ []) (codes "0501000200015d95")
  -- the user rejects
  reject_owes_di : BSendsOne (called ++ b (Reject 1) ∷ []) (codes "810e00010101e64002010402040038010001000000009553")
  -- the user closes
  close_owes_di : ASendsOne (linked ++ a (Close 1) ∷ []) (codes "810e00010301e72002020401040038010001000000009fd4")
  -- a CC that is acted on: a data ack of nothing
  cc_brings_data_ack : ASendsOne (accepted ++ a Deliver ∷ []) (codes "810d00010201a2b002020401040004010001000080ccfd")
  -- a CC that comes again in RUN
  cc_in_running_brings_data_ack : ASends (accepted ++ b (Retry 1) ∷ b Send ∷ a Deliver ∷ a Send ∷ a Deliver ∷ [])
      (codes "810d00020301532002020401040004010001000080ccfd")
  -- a CC that comes again in DI: the ACK of its data alone
  cc_in_di_brings_nothing : ASends (accepted ++ b (Retry 1) ∷ b Send ∷ a Deliver ∷ a Send ∷ a (Close 1) ∷ a Send ∷ a Deliver ∷ [])
      (codes "0501000200015d95")

call_computed : CallRows
unfolding playing
call_computed = search

record EndRows : Type 0 where
  -- a segment, which the user gets at once
  segment_brings_data_ack : Adds (linked ++ a (In 1 (codes "a")) ∷ a Send ∷ []) (b Deliver ∷ b Send ∷ b Send ∷ [])
      (StopsAt 2 BadStep []
      (k 4 (codes "810e00010301e72002020401040060010001000100610b66") ∷ User (event.Up 1 (codes "a")) ∷
      s (codes "810d000302010370020104020400040100010001803966") ∷ []))
  -- a segment that comes again: acknowledged, and not delivered
  segment_again_brings_data_ack : Adds (linked ++ a (In 1 (codes "a")) ∷ a Send ∷ b Deliver ∷ b Send ∷ a (Retry 1) ∷ a Send ∷ [])
      (b Deliver ∷ b Send ∷ [])
      (Captures [] (k 5 (codes "810e00010401e51002020401040060010001000100610b66") ∷ s (codes "810d00040301b321020104020400040100010001803966") ∷ []))
  -- a segment in DI: the ACK of its data alone
  segment_in_di_brings_nothing : Adds (linked ++ a (In 1 (codes "a")) ∷ a Send ∷ b (Close 1) ∷ b Send ∷ []) (b Deliver ∷ b Send ∷ [])
      (Captures [] (k 4 (codes "810e00010301e72002020401040060010001000100610b66") ∷ s (codes "0501000300010c55") ∷ []))
  -- a data ack: the ACK of its data alone
  data_ack_brings_nothing : ASendsOne (linked ++ a (In 1 (codes "a")) ∷ a Send ∷ b Deliver ∷ b Send ∷ a Deliver ∷ []) (codes "0501000200015d95")
  -- a DI that is acted on
  di_brings_dc : BSendsOne (linked ++ a (Close 1) ∷ a Send ∷ b Deliver ∷ []) (codes "810d00030201037002010402040048010001002a00abf2")
  -- the same in Calling
  di_in_calling_brings_dc : ASends (rejected ++ a Deliver ∷ []) (codes "810d00010201a2b002020401040048010001002a005ff9")
  -- a DI for a link that is no more
  di_for_no_link_brings_dc : ASends (rejected ++ b (Retry 1) ∷ b Send ∷ a Deliver ∷ a Send ∷ a Deliver ∷ [])
      (codes "810d000203015320020204010400480100010029005f09")
  -- one for each DI, in the order in which they came
  each_di_brings_dc : Adds (rejected ++ b (Retry 1) ∷ b Send ∷ a Deliver ∷ a Deliver ∷ []) (a Send ∷ a Send ∷ a Send ∷ [])
      (StopsAt 2 BadStep
      (s (codes "810d0002020152b002020401040048010001002a005ff9") ∷ s (codes "810d000203015320020204010400480100010029005f09") ∷ []) [])
  -- a DC: the ACK of its data alone
  dc_brings_nothing : BSends (rejected ++ a Deliver ∷ a Send ∷ b Deliver ∷ []) (codes "0501000200015d95")
  -- both DCs have the addresses of their DI exchanged
  dcs_go_back : Adds
      (running ++ a Open ∷ a Open ∷ a Send ∷ a Send ∷ b Deliver ∷ b Deliver ∷ b (Reject 2) ∷ b Send ∷ b Send ∷ b (Retry 1) ∷ b Send ∷ a Deliver ∷
      a Deliver ∷ a Deliver ∷ []) (a Send ∷ a Send ∷ a Send ∷ [])
      (StopsAt 2 BadStep
      (s (codes "810d0003030102e002020401040048010002002a005fbd") ∷ s (codes "810d0003040100d0020204010400480100020029005f4d") ∷ []) [])
  -- also of a link in RUN
  dc_of_a_link_in_run_goes_back : BSendsOne
      (running ++ a Open ∷ a Open ∷ a Send ∷ a Send ∷ b Deliver ∷ b Deliver ∷ b (Accept 2) ∷ b Send ∷ b Send ∷ a Deliver ∷ a Deliver ∷ a Send ∷
      b Deliver ∷ a (Close 2) ∷ a Send ∷ b Deliver ∷ []) (codes "810d00040301b32102010402040048020001002a00abc1")

end_computed : EndRows
unfolding playing
end_computed = search
