-- Longer scripts of the player, and their captures.
use Rattle.dna_rows.proofs.Prelude.{List, [], ◌∷◌, replicate, codes, Record, User, ScriptStep, Timer, Send, Deliver, Refuse, Lose, Damage, Open}
use Rattle.dna_rows.proofs.Prelude.{Accept, Reject, Close, Retry}
use Rattle.capture_record.specs.declared.event.Event.TheVariants as event
use Rattle.dna_play.specs.Script.{Start, In}
use Rattle.dna_rows.proofs.Units.{hex}
use Rattle.dna_rows.proofs.Scripts.{a, b, s, r, k, PlaysBetween, Captures, playing}

-- Units are lost and damaged, and both stations ask and repeat
abbrev lossy : List ScriptStep
lossy = b Start ∷ b Timer ∷ b Send ∷ a Deliver ∷ a Start ∷ a Send ∷ b Deliver ∷ b Send ∷ a Deliver ∷ a Open ∷ a (In 1 []) ∷ a Send ∷ a Timer ∷
    b Deliver ∷ b Send ∷ b Timer ∷ a Deliver ∷ b (Accept 1) ∷ a Send ∷ b Deliver ∷ a Open ∷ b (In 1 (hex (codes "44f6c9635d"))) ∷ b (Close 1) ∷
    a Send ∷ b Deliver ∷ a Timer ∷ a Send ∷ a (In 2 (hex (codes "fefb"))) ∷ b Timer ∷ b Lose ∷ a (In 1 (hex (codes "9a08e6b8"))) ∷ b (Accept 2) ∷
    b (In 2 (hex (codes "a1"))) ∷ b Send ∷ a Deliver ∷ b Send ∷ a (In 2 (hex (codes "5509d80e6c16"))) ∷ a (Damage 12 153) ∷
    b (In 2 (hex (codes "d19e672afc"))) ∷ b Open ∷ a Send ∷ a Timer ∷ a Open ∷ a (In 3 []) ∷ b Deliver ∷ a (In 2 []) ∷ b Send ∷ a Deliver ∷ a Send ∷
    b Deliver ∷ b (In 2 (hex (codes "f0539f"))) ∷ a (Retry 2) ∷ b Send ∷ a Deliver ∷ []

abbrev lossy_a : List Record
lossy_a = r 0 (codes "0506c00000017595") ∷ User event.Start ∷ s (codes "0506c00000017595") ∷ r 1 (codes "0507c00000014855") ∷ User (event.Open 1) ∷
    User (event.In 1 []) ∷ s (codes "810f000001018a40020104020400180000010001020002ea9f") ∷ k 2 (codes "81090001010153800202040104002401006cf3") ∷
    s (codes "050100010001ad95") ∷ User (event.Open 2) ∷ s (codes "810f00010201db70020104020400180000020001020002eaac") ∷
    s (codes "05030000020184f5") ∷ User (event.In 2 (hex (codes "fefb"))) ∷ User (event.In 1 (hex (codes "9a08e6b8"))) ∷
    k 3 (codes "810e0002020116b002020401040038010001000000009fd4") ∷ User (event.In 2 (hex (codes "5509d80e6c16"))) ∷
    r 4 (codes "811000020301bf22020204019d002802000200010200020072d2") ∷ s (codes "050202020001182d") ∷ User (event.Open 3) ∷ User (event.In 3 []) ∷
    User (event.In 2 []) ∷ k 5 (codes "811000020301bf220202040104002802000200010200020072d2") ∷
    s (codes "810d0003030102e002010402040048010001002a00abf2") ∷ k 6 (codes "810f000304017910020204010400180000030001020002ec7a") ∷ []

abbrev lossy_b : List Record
lossy_b = User event.Start ∷ s (codes "0506c00000017595") ∷ r 0 (codes "0506c00000017595") ∷ s (codes "0507c00000014855") ∷
    k 1 (codes "810f000001018a40020104020400180000010001020002ea9f") ∷ s (codes "81090001010153800202040104002401006cf3") ∷ User (event.Accept 1 1) ∷
    r 2 (codes "050100010001ad95") ∷ User (event.In 1 (hex (codes "44f6c9635d"))) ∷ User (event.Close 1) ∷
    k 3 (codes "810f00010201db70020104020400180000020001020002eaac") ∷ User (event.Accept 2 2) ∷ User (event.In 2 (hex (codes "a1"))) ∷
    s (codes "810e0002020116b002020401040038010001000000009fd4") ∷ s (codes "811000020301bf220202040104002802000200010200020072d2") ∷
    User (event.In 2 (hex (codes "d19e672afc"))) ∷ User (event.Open 3) ∷ r 5 (codes "050202020001182d") ∷
    s (codes "811000020301bf220202040104002802000200010200020072d2") ∷ k 6 (codes "810d0003030102e002010402040048010001002a00abf2") ∷
    User (event.In 2 (hex (codes "f0539f"))) ∷ s (codes "810f000304017910020204010400180000030001020002ec7a") ∷ []

-- A link opened from b, and messages to both users
abbrev delivered : List ScriptStep
delivered = b Start ∷ a Start ∷ b Send ∷ a Deliver ∷ a Send ∷ b Deliver ∷ b Open ∷ b Send ∷ a Deliver ∷ a Send ∷ b Deliver ∷ b Send ∷ a (Accept 1) ∷
    a Send ∷ a Deliver ∷ b Timer ∷ b Send ∷ a (In 1 (hex (codes "b6f9f4105358425e2bc625f465df2fbba9b493a76681"))) ∷ a Deliver ∷ b Deliver ∷ b Send ∷
    a Deliver ∷ a Send ∷ b Deliver ∷ b Send ∷ a Deliver ∷ a (In 1 []) ∷ a Send ∷ b Deliver ∷ []

abbrev delivered_a : List Record
delivered_a = User event.Start ∷ r 0 (codes "0506c00000017595") ∷ s (codes "0507c00000014855") ∷
    k 1 (codes "810f000001018a40020204010400180000010001020002ed98") ∷ s (codes "81090001010153800201040204002401002cd5") ∷ User (event.Accept 1 1) ∷
    s (codes "8110000102014eb20201040204002801000100010200020013e0") ∷ r 2 (codes "050100010001ad95") ∷
    User (event.In 1 (hex (codes "b6f9f4105358425e2bc625f465df2fbba9b493a76681"))) ∷ r 3 (codes "050100010001ad95") ∷
    k 4 (codes "810d0002020152b002020401040004010001000080ccfd") ∷
    s (codes "812300020301bb2602010402040060010001000100b6f9f4105358425e2bc625f465df2fbba9b493a7668199ca") ∷
    k 5 (codes "810d0003030102e002020401040004010001000180cd6d") ∷ User (event.In 1 []) ∷ s (codes "810d0003040100d0020104020400600100010002001df0") ∷
    []

abbrev delivered_b : List Record
delivered_b = User event.Start ∷ s (codes "0506c00000017595") ∷ r 0 (codes "0507c00000014855") ∷ User (event.Open 1) ∷
    s (codes "810f000001018a40020204010400180000010001020002ed98") ∷ k 1 (codes "81090001010153800201040204002401002cd5") ∷
    s (codes "050100010001ad95") ∷ s (codes "050100010001ad95") ∷ k 2 (codes "8110000102014eb20201040204002801000100010200020013e0") ∷
    s (codes "810d0002020152b002020401040004010001000080ccfd") ∷
    k 3 (codes "812300020301bb2602010402040060010001000100b6f9f4105358425e2bc625f465df2fbba9b493a7668199ca") ∷
    User (event.Up 1 (hex (codes "b6f9f4105358425e2bc625f465df2fbba9b493a76681"))) ∷ s (codes "810d0003030102e002020401040004010001000180cd6d") ∷
    k 4 (codes "810d0003040100d0020104020400600100010002001df0") ∷ User (event.Up 1 []) ∷ []

-- Node 62.1023 beside 1.1: packets for which there is no buffer, and damaged ones
abbrev far_node : List ScriptStep
far_node = b Start ∷ b Open ∷ a Start ∷ b Send ∷ a Send ∷ a Deliver ∷ b (Damage 5 146) ∷ a Send ∷ b Timer ∷ b Send ∷ a Timer ∷ a Deliver ∷
    b (In 1 (hex (codes "1ede020fa4"))) ∷ b Open ∷ b Refuse ∷ a Timer ∷ b Open ∷ a Open ∷ b Send ∷ a Deliver ∷ a Send ∷ b Deliver ∷
    b (In 3 (hex (codes "4534df141b09"))) ∷ a (Accept 1) ∷ b (In 2 (hex (codes "0f"))) ∷ b Send ∷ b (In 2 []) ∷ b (In 2 (hex (codes "5e3407"))) ∷ []

abbrev far_node_a : List Record
far_node_a = User event.Start ∷ s (codes "0506c00000017595") ∷ r 0 (codes "0506c00000017595") ∷ s (codes "0507c00000014855") ∷
    r 1 (codes "0506c00000017595") ∷ User (event.Open 1) ∷ k 2 (codes "810f000001018a4002fffb010400180000010001020002455b") ∷
    s (codes "810f00010101db80020104fffb00180000010001020002775a") ∷ User (event.Accept 1 2) ∷ []

abbrev far_node_b : List Record
far_node_b = User event.Start ∷ User (event.Open 1) ∷ s (codes "0506c00000017595") ∷ r 0 (codes "0506c00000937595") ∷ s (codes "0506c00000017595") ∷
    User (event.In 1 (hex (codes "1ede020fa4"))) ∷ User (event.Open 2) ∷ r 1 (codes "0507c00000014855") ∷ User (event.Open 3) ∷
    s (codes "810f000001018a4002fffb010400180000010001020002455b") ∷ k 2 (codes "810f00010101db80020104fffb00180000010001020002775a") ∷
    User (event.In 3 (hex (codes "4534df141b09"))) ∷ User (event.In 2 (hex (codes "0f"))) ∷
    s (codes "810f00010201db7002fffb0104001800000200010200024568") ∷ User (event.In 2 []) ∷ User (event.In 2 (hex (codes "5e3407"))) ∷ []

-- Several links: accepted, rejected, closed from either side, their segments acknowledged and repeated
abbrev several_links : List ScriptStep
several_links = b Start ∷ a Open ∷ a (Retry 1) ∷ b Send ∷ a Deliver ∷ a Start ∷ a Timer ∷ a Send ∷ b Deliver ∷ a (In 1 (hex (codes "e419d226"))) ∷
    b Send ∷ a Deliver ∷ b Timer ∷ a Timer ∷ b Send ∷ a Deliver ∷ a Send ∷ a (In 1 (hex (codes "49ed"))) ∷ b Deliver ∷ b Send ∷ a Deliver ∷
    b (Accept 1) ∷ a Send ∷ b Deliver ∷ b Send ∷ a Deliver ∷ a Send ∷ b Deliver ∷ a Send ∷ b Deliver ∷ a (Retry 1) ∷ b Send ∷ a Deliver ∷
    b (In 1 (hex (codes "6920"))) ∷ b Open ∷ a Send ∷ b Deliver ∷ b Send ∷ a Deliver ∷ a Send ∷ b Deliver ∷ b Send ∷ a Deliver ∷
    a (In 1 (replicate 512 5)) ∷ a Timer ∷ a Send ∷ b Send ∷ a Deliver ∷ b Deliver ∷ b Open ∷ b (In 1 (hex (codes "2c3e47"))) ∷ a Timer ∷
    a (Accept 2) ∷ a Send ∷ b Deliver ∷ a (In 2 (hex (codes "33b9a1"))) ∷ a (In 2 (hex (codes "6709d8c8"))) ∷ b Open ∷ a (Close 1) ∷
    b (In 1 (hex (codes "5aefa5c5d085ad7c38dbfb15c8c8"))) ∷ a Send ∷ a Send ∷ b (In 3 (hex (codes "cae09bae82"))) ∷ b Deliver ∷ b Deliver ∷ b Send ∷
    b Send ∷ a Deliver ∷ a Deliver ∷ b (In 3 (hex (codes "c5"))) ∷ a Send ∷ b Deliver ∷ b (In 3 (hex (codes "24"))) ∷ b Send ∷ a Send ∷ a Deliver ∷
    b (Close 2) ∷ a Send ∷ b Deliver ∷ a (In 2 (hex (codes "108d3782"))) ∷ a (Close 2) ∷ b Deliver ∷ b Send ∷ a Deliver ∷ a Send ∷ b Deliver ∷
    b (In 3 []) ∷ b Timer ∷ b Timer ∷ b Send ∷ a Deliver ∷ b Send ∷ a Deliver ∷ a (Accept 3) ∷ a Send ∷ b Deliver ∷ a Send ∷ a Open ∷ a Send ∷
    b Timer ∷ b (Retry 4) ∷ b Send ∷ a Deliver ∷ b Send ∷ b (In 4 (hex (codes "e878"))) ∷ a (Reject 4) ∷ b Timer ∷ b Deliver ∷ b Open ∷ b Deliver ∷
    a Deliver ∷ a (In 4 (hex (codes "4eb402d8"))) ∷ b (In 3 (hex (codes "5a3ae48e"))) ∷ b Send ∷ b (In 3 (hex (codes "a0e0fedf2b63"))) ∷
    b (Accept 4) ∷ a Send ∷ b (In 5 []) ∷ b Deliver ∷ b (Retry 4) ∷ a Send ∷ a Deliver ∷ b Send ∷ b (Retry 5) ∷ b (In 6 (hex (codes "065ea8"))) ∷
    b (Retry 4) ∷ b Deliver ∷ b Send ∷ a Send ∷ a Deliver ∷ b (Retry 5) ∷ b Deliver ∷ a (In 4 []) ∷ b Send ∷ b (In 3 (hex (codes "49"))) ∷ a Deliver ∷
    a Deliver ∷ b (In 3 []) ∷ []

abbrev several_links_a : List Record
several_links_a = User (event.Open 1) ∷ r 0 (codes "0506c00000017595") ∷ User event.Start ∷ s (codes "0506c00000017595") ∷
    User (event.In 1 (hex (codes "e419d226"))) ∷ r 1 (codes "0507c00000014855") ∷ r 2 (codes "0507c00000014855") ∷
    s (codes "810f000001018a40020204010400180000010001020002ed98") ∷ User (event.In 1 (hex (codes "49ed"))) ∷
    k 3 (codes "81090001010153800201040204002401002cd5") ∷ s (codes "050100010001ad95") ∷
    k 4 (codes "8110000102014eb20201040204002801000100010200020013e0") ∷ s (codes "810d0002020152b002020401040004010001000080ccfd") ∷
    s (codes "81110002030182e202020401040060010001000100e419d2267fd3") ∷ k 5 (codes "810d0003030102e0020104020400040100010001803966") ∷
    s (codes "810f0003040179100202040104006001000100020049edf9ce") ∷ k 6 (codes "810d00040401b111020104020400040100010002803996") ∷
    s (codes "050100040001bd94") ∷ k 7 (codes "810f00040501c94102010402040060010001000100692026d8") ∷ User (event.Up 1 (hex (codes "6920"))) ∷
    User (event.In 1 (replicate 512 5)) ∷ s (codes "810d00050501e14102020401040004010001000180cd6d") ∷
    k 8 (codes "810f00040601c9b1020104020400180000020001020002eaac") ∷ User (event.Accept 2 2) ∷ s (codes "05030000050186c5") ∷
    User (event.In 2 (hex (codes "33b9a1"))) ∷ User (event.In 2 (hex (codes "6709d8c8"))) ∷ User (event.Close 1) ∷
    s (codes "810e0006060155b102020401040038010001000000009fd4") ∷ s (codes "811000060701fc230202040104002802000200010200020072d2") ∷
    k 9 (codes "810d0007070141e102010402040048010001002a00abf2") ∷ k 10 (codes "810d000708014411020104020400040200020000803881") ∷
    s (codes "81100008080198100202040104006002000200010033b9a1b313") ∷ s (codes "811100080901a440020204010400600200020002006709d8c86157") ∷
    k 11 (codes "810d000809017582020104020400040200020001803911") ∷ s (codes "0501000900012c57") ∷ User (event.In 2 (hex (codes "108d3782"))) ∷
    User (event.Close 2) ∷ k 12 (codes "810e00090a0160b20201040204003802000200000000e253") ∷
    s (codes "810d000a0a01d4b202020401040048020002002a005f8e") ∷ k 13 (codes "810f000a0b01ace2020104020400180000030001020002eb7d") ∷
    k 14 (codes "810f000a0c01aed2020104020400180000040001020002eaca") ∷ User (event.Accept 3 3) ∷
    s (codes "8110000c0b01d921020204010400280300030001020002006f82") ∷ s (codes "8109000c0c01c6d30202040104002404006fa3") ∷ User (event.Open 4) ∷
    s (codes "810f000c0d014f43020204010400180000040001020002edcd") ∷ k 15 (codes "810d000b0d0187420201040204000403000300008038ac") ∷
    User (event.Reject 4 5) ∷ k 16 (codes "8112000b0e01127002010402040060030003000100cae09bae82dce4") ∷ User (event.Up 3 (hex (codes "cae09bae82"))) ∷
    User (event.In 4 (hex (codes "4eb402d8"))) ∷ s (codes "810d000e0e0197b302020401040004030003000180cd37") ∷
    s (codes "810e000e0f01d22302020401040038040005000000003b14") ∷ r 17 (codes "050300000e0181f5") ∷ s (codes "0501000e00019d96") ∷
    k 18 (codes "810e000e0f01d22302010402040060030003000200c5aa5a") ∷ User (event.Up 3 (hex (codes "c5"))) ∷ User (event.In 4 []) ∷
    k 19 (codes "810d000f1001cfd302010402040048050004002a00aaba") ∷ k 20 (codes "810e000f11018a4302010402040060030003000300243bd2") ∷
    User (event.Up 3 (hex (codes "24"))) ∷ []

abbrev several_links_b : List Record
several_links_b = User event.Start ∷ s (codes "0506c00000017595") ∷ r 0 (codes "0506c00000017595") ∷ s (codes "0507c00000014855") ∷
    s (codes "0507c00000014855") ∷ k 1 (codes "810f000001018a40020204010400180000010001020002ed98") ∷
    s (codes "81090001010153800201040204002401002cd5") ∷ User (event.Accept 1 1) ∷ r 2 (codes "050100010001ad95") ∷
    s (codes "8110000102014eb20201040204002801000100010200020013e0") ∷ k 3 (codes "810d0002020152b002020401040004010001000080ccfd") ∷
    k 4 (codes "81110002030182e202020401040060010001000100e419d2267fd3") ∷ User (event.Up 1 (hex (codes "e419d226"))) ∷
    s (codes "810d0003030102e0020104020400040100010001803966") ∷ User (event.In 1 (hex (codes "6920"))) ∷ User (event.Open 2) ∷
    k 5 (codes "810f0003040179100202040104006001000100020049edf9ce") ∷ User (event.Up 1 (hex (codes "49ed"))) ∷
    s (codes "810d00040401b111020104020400040100010002803996") ∷ r 6 (codes "050100040001bd94") ∷
    s (codes "810f00040501c94102010402040060010001000100692026d8") ∷ s (codes "810f00040601c9b1020104020400180000020001020002eaac") ∷
    k 7 (codes "810d00050501e14102020401040004010001000180cd6d") ∷ User (event.Open 3) ∷ User (event.In 1 (hex (codes "2c3e47"))) ∷
    r 8 (codes "05030000050186c5") ∷ User (event.Open 4) ∷ User (event.In 1 (hex (codes "5aefa5c5d085ad7c38dbfb15c8c8"))) ∷
    User (event.In 3 (hex (codes "cae09bae82"))) ∷ k 9 (codes "810e0006060155b102020401040038010001000000009fd4") ∷
    k 10 (codes "811000060701fc230202040104002802000200010200020072d2") ∷ s (codes "810d0007070141e102010402040048010001002a00abf2") ∷
    s (codes "810d000708014411020104020400040200020000803881") ∷ User (event.In 3 (hex (codes "c5"))) ∷
    k 11 (codes "81100008080198100202040104006002000200010033b9a1b313") ∷ User (event.Up 2 (hex (codes "33b9a1"))) ∷
    User (event.In 3 (hex (codes "24"))) ∷ s (codes "810d000809017582020104020400040200020001803911") ∷ User (event.Close 2) ∷
    k 12 (codes "811100080901a440020204010400600200020002006709d8c86157") ∷ r 13 (codes "0501000900012c57") ∷
    s (codes "810e00090a0160b20201040204003802000200000000e253") ∷ k 14 (codes "810d000a0a01d4b202020401040048020002002a005f8e") ∷
    User (event.In 3 []) ∷ s (codes "810f000a0b01ace2020104020400180000030001020002eb7d") ∷
    s (codes "810f000a0c01aed2020104020400180000040001020002eaca") ∷ k 15 (codes "8110000c0b01d921020204010400280300030001020002006f82") ∷
    s (codes "810d000b0d0187420201040204000403000300008038ac") ∷ s (codes "8112000b0e01127002010402040060030003000100cae09bae82dce4") ∷
    User (event.In 4 (hex (codes "e878"))) ∷ k 16 (codes "8109000c0c01c6d30202040104002404006fa3") ∷ User (event.Open 5) ∷
    k 17 (codes "810f000c0d014f43020204010400180000040001020002edcd") ∷ User (event.In 3 (hex (codes "5a3ae48e"))) ∷ s (codes "050300000e0181f5") ∷
    User (event.In 3 (hex (codes "a0e0fedf2b63"))) ∷ User (event.Accept 4 6) ∷ User (event.In 5 []) ∷
    k 18 (codes "810d000e0e0197b302020401040004030003000180cd37") ∷ s (codes "810e000e0f01d22302010402040060030003000200c5aa5a") ∷
    User (event.In 6 (hex (codes "065ea8"))) ∷ k 19 (codes "810e000e0f01d22302020401040038040005000000003b14") ∷
    s (codes "810d000f1001cfd302010402040048050004002a00aaba") ∷ r 20 (codes "0501000e00019d96") ∷
    s (codes "810e000f11018a4302010402040060030003000300243bd2") ∷ User (event.In 3 (hex (codes "49"))) ∷ User (event.In 3 []) ∷ []

record Rows : Type 0 where
  lossy_is_played : PlaysBetween 0x0402 0x0401 lossy (Captures lossy_a lossy_b)
  delivered_is_played : PlaysBetween 0x0402 0x0401 delivered (Captures delivered_a delivered_b)
  far_node_is_played : PlaysBetween 0xfbff 0x0401 far_node (Captures far_node_a far_node_b)
  several_links_is_played : PlaysBetween 0x0401 0x0402 several_links (Captures several_links_a several_links_b)

computed : Rows
unfolding playing
computed = search
