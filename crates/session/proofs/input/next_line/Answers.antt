use Rattle.session.proofs.LinesInHand.{past_next}
use Rattle.session.proofs.input.next_line.Goals as goal

pub returns-in-Line-clause-past : goal.returns-in-Line-clause-past
returns-in-Line-clause-past g c = past_next c.args.reader.now.cap _ _ c.next.result c.next.new.self.ended c.requires.cap c.next.ensures.answer

pub returns-in-End-clause-past : goal.returns-in-End-clause-past
returns-in-End-clause-past g c = past_next c.args.reader.now.cap _ _ c.next.result c.next.new.self.ended c.requires.cap c.next.ensures.answer

pub returns-in-TooLong-clause-past : goal.returns-in-TooLong-clause-past
returns-in-TooLong-clause-past g c = past_next c.args.reader.now.cap _ _ c.next.result c.next.new.self.ended c.requires.cap c.next.ensures.answer

pub returns-in-ReadFault-clause-past : goal.returns-in-ReadFault-clause-past
returns-in-ReadFault-clause-past g c = past_next c.args.reader.now.cap _ _ c.next.result c.next.new.self.ended c.requires.cap c.next.ensures.answer

pub returns-in-Memory-clause-past : goal.returns-in-Memory-clause-past
returns-in-Memory-clause-past g c = past_next c.args.reader.now.cap _ _ c.next.result c.next.new.self.ended c.requires.cap c.next.ensures.answer
