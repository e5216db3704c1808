use Rattle.obo_frames.proofs.OneLemmas.{has_one_fault, is_document_or_fault, is_never_both, is_one_document}
use Rattle.obo_frames.proofs.laws.file_is_document_or_fault.Goals as goal

pub returns : goal.returns
returns c = record {
  some = is_document_or_fault c.args.line_limit c.args.bytes.now;
  never_both = is_never_both c.args.line_limit c.args.bytes.now;
  one_document = is_one_document c.args.line_limit c.args.bytes.now;
  one_fault = has_one_fault c.args.line_limit c.args.bytes.now;
}
