use Rattle.std.proofs.Common.{◌∙◌}
use Rattle.report.specs.Status.{message_of}
use Rattle.report.proofs.Says.{says}
use Rattle.report.proofs.endings.report_ending.Goals as goal

pub returns-clause-said : goal.returns-clause-said
returns-clause-said g c =
    says c.write_whole.result (message_of c.args.ending) c.as_bytes.result.now _ _ (c.as_bytes.ensures ∙ c.message.ensures) c.write_whole.ensures.written c.write_whole.ensures.cause
