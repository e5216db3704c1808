use Rattle.robot_cli.proofs.run.Goals as goal

pub returns : goal.returns
returns g c = record {
  fault = c.release-ended.result.fault;
  is_status = c.release-ended.ensures.status;
  released = c.release-ended.ensures.released;
  nothing_else = c.release-ended.ensures.nothing_else;
  counts = c.release-ended.ensures.counts;
  stops = c.release-ended.ensures.stops;
  complete = c.release-ended.ensures.complete;
  refused = c.release-ended.ensures.words;
  out = c.release-ended.ensures.out;
  err = c.release-ended.ensures.err;
}
