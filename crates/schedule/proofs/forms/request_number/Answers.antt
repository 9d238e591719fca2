use Rattle.schedule.proofs.Decimals.{written_from_one}
use Rattle.schedule.proofs.forms.request_number.Goals as goal

pub returns : goal.returns
returns c = written_from_one _ _ c.new.result c.in_ok-decimal.ensures c.new.ensures.valid c.new.ensures.value
