use Rattle.geneve_frames.proofs.Whole.{looked_missing, looked_repeated}
use Rattle.geneve_frames.proofs.reading.answer.Goals as goal

pub returns-in-Missing : goal.returns-in-Missing
returns-in-Missing c =
    let base = c.in-Some.ensures.found in
    let all = c.in-Some-survey_of.ensures.found in
    looked_missing c.args.frame.now c.in-Some.rest.now c.split_at.result.0.now c.split_at.result.1.now c.in-Some.base c.in-Some-survey_of.found (record {
      base = base.0;
      begins = base.1;
      is_base = base.2;
      version = c.if-base-ne0.false;
      control = c.if-base.false;
      protocol = c.if-base-ne-TRANSPARENT_ETHERNET.false;
      fits = c.if-rest-base.false;
      front = c.split_at.ensures.front;
      back = c.split_at.ensures.back;
      all = all.0;
      are = all.1;
      sums = all.2;
      known = c.if-found.false;
    }) c.in-Missing.is

pub returns-in-Repeated : goal.returns-in-Repeated
returns-in-Repeated c =
    let base = c.in-Some.ensures.found in
    let all = c.in-Some-survey_of.ensures.found in
    looked_repeated c.args.frame.now c.in-Some.rest.now c.split_at.result.0.now c.split_at.result.1.now c.in-Some.base c.in-Some-survey_of.found (record {
      base = base.0;
      begins = base.1;
      is_base = base.2;
      version = c.if-base-ne0.false;
      control = c.if-base.false;
      protocol = c.if-base-ne-TRANSPARENT_ETHERNET.false;
      fits = c.if-rest-base.false;
      front = c.split_at.ensures.front;
      back = c.split_at.ensures.back;
      all = all.0;
      are = all.1;
      sums = all.2;
      known = c.if-found.false;
    }) c.in-Repeated.is
