use Rattle.framer.proofs.WrittenLaws.{message_frame}
use Rattle.framer.proofs.laws.messages_are_frames.Goals as goal

pub returns : goal.returns
returns c = message_frame
