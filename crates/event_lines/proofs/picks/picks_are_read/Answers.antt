use Rattle.event_lines.proofs.PickLines as read
use Rattle.event_lines.proofs.picks.picks_are_read.Goals as goal

pub returns-clause-accepted : goal.returns-clause-accepted
returns-clause-accepted c = read.accepted

pub returns-clause-refused : goal.returns-clause-refused
returns-clause-refused c = read.refused

pub returns-clause-end : goal.returns-clause-end
returns-clause-end c = read.end

pub returns-clause-joined : goal.returns-clause-joined
returns-clause-joined c = read.joined

pub returns-clause-accepted_whole : goal.returns-clause-accepted_whole
returns-clause-accepted_whole c = read.accepted_whole

pub returns-clause-refused_whole : goal.returns-clause-refused_whole
returns-clause-refused_whole c = read.refused_whole

pub returns-clause-end_whole : goal.returns-clause-end_whole
returns-clause-end_whole c = read.end_whole
