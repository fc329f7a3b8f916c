-- Whether the node of some links has queues between NSP and DDCMP, by the number that its type has.
use Rattle.std.specs.Prelude.{ℕ, zero, suc}
use Rattle.dna_links.specs.declared.queue.Queues.{Queues}
use Rattle.dna_links.specs.declared.queue.Queues.TheVariants.{Without, With}

-- 0: without; any other: with
abbrev pub queues_of : ℕ → Queues
queues_of zero = Without
queues_of (suc number) = With
