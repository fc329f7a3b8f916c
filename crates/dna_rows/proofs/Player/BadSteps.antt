-- Worked rows of the player: steps that can't be made, and the least that can.
use Rattle.dna_rows.proofs.Prelude.{[], ◌∷◌, ◌++◌, codes, User, Send, Deliver, Refuse, Lose, Damage, Noise, Open, Accept, Reject, Close, Retry}
use Rattle.capture_record.specs.declared.event.Event.TheVariants as event
use Rattle.dna_play.specs.Script.{Start, Halt, In}
use Rattle.dna_rows.proofs.Units.{hex}
use Rattle.dna_rows.proofs.Scripts.{a, b, r, IsBad, Adds, Captures, running, called, linked, rejected, playing}

record Rows : Type 0 where
  -- a script without steps
  head_alone : Adds [] [] (Captures [] [])
  -- nothing to send
  nothing_to_send : IsBad [] (a Send)
  -- nothing is on the line
  nothing_to_lose : IsBad [] (b Lose)
  -- the same
  nothing_to_deliver : IsBad (a Start ∷ b Start ∷ b Send ∷ []) (b Deliver)
  -- the same
  nothing_to_refuse : IsBad (a Start ∷ []) (a Refuse)
  -- the same
  nothing_to_damage : IsBad (a Start ∷ []) (a (Damage 0 1))
  -- a unit that was lost does not come
  lost_units_are_gone : IsBad (a Start ∷ a Send ∷ b Lose ∷ []) (b Deliver)
  -- the unit has bytes 0 to 7
  damage_behind_the_unit : IsBad (a Start ∷ b Start ∷ a Send ∷ []) (b (Damage 8 1))
  -- the last one
  damage_at_the_last_byte : Adds (a Start ∷ b Start ∷ a Send ∷ []) (b (Damage 7 1) ∷ []) (Captures [] (r 0 (codes "0506c00000017594") ∷ []))
  -- a value from 1
  damage_by_nothing : IsBad (a Start ∷ b Start ∷ a Send ∷ []) (b (Damage 0 0))
  -- to 255
  damage_by_more_than_a_byte : IsBad (a Start ∷ b Start ∷ a Send ∷ []) (b (Damage 0 256))
  -- 255 itself
  damage_by_a_byte : Adds (a Start ∷ b Start ∷ a Send ∷ []) (b (Damage 0 255) ∷ []) (Captures [] (r 0 (codes "fa06c00000017595") ∷ []))
  -- a start in ISTRT
  starts_twice : IsBad (a Start ∷ []) (a Start)
  -- a halt in every state
  halts_always : Adds [] (a Halt ∷ a Start ∷ a Halt ∷ a Halt ∷ [])
      (Captures (User event.Halt ∷ User event.Start ∷ User event.Halt ∷ User event.Halt ∷ []) [])
  -- no link calls from this address
  accepts_no_call : IsBad called (b (Accept 2))
  -- the same
  rejects_no_call : IsBad (called ++ b (Accept 1) ∷ []) (b (Reject 1))
  -- no link has this address
  hands_in_at_no_link : IsBad running (a (In 1 (codes "a")))
  -- a link in Calling takes messages
  hands_in_at_any_time : Adds (a Open ∷ []) (a (In 1 (codes "a")) ∷ []) (Captures (User (event.In 1 (codes "a")) ∷ []) [])
  -- a link in DI takes none
  hands_in_behind_the_close : IsBad (linked ++ a (Close 1) ∷ []) (a (In 1 (codes "a")))
  -- no link has this address
  closes_no_link : IsBad running (a (Close 1))
  -- a link in Calling is not closed
  closes_before_the_answer : IsBad (running ++ a Open ∷ []) (a (Close 1))
  -- nor is one in DI
  closes_twice : IsBad (linked ++ a (Close 1) ∷ []) (a (Close 1))
  -- no link has this address
  retries_no_link : IsBad running (a (Retry 1))
  -- a link that was not answered has none
  retries_a_call : IsBad called (b (Retry 1))
  -- nor is one that ended retried
  retries_an_ended_link : IsBad (rejected ++ a Deliver ∷ a Send ∷ b Deliver ∷ []) (b (Retry 1))
  -- an end gives 1, 2, 3 and so on, by open, accept and reject alike
  addresses_in_order : Adds (running ++ b Open ∷ a Open ∷ a Open ∷ a Send ∷ a Send ∷ b Deliver ∷ b Deliver ∷ [])
      (b (Accept 2) ∷ b (Reject 1) ∷ b Open ∷ []) (Captures [] (User (event.Accept 2 2) ∷ User (event.Reject 1 3) ∷ User (event.Open 4) ∷ []))
  -- what a block check does not show to be damaged
  sound_noise : IsBad running (b (Noise (hex (codes "0506c00000017595"))))
  malformed_noise : IsBad running (b (Noise (hex (codes "0000000000000000"))))

computed : Rows
unfolding playing
computed = search
