-- What is read of a number, a plan's line and a line after it is exactly what their forms say.
use Rattle.proxy_commands.proofs.Decimals.{decimal_of-number, number-decimal_of}
use Rattle.proxy_commands.proofs.LineForms.{line_of-says, says-line_of}
use Rattle.proxy_commands.proofs.PlanForms.{parts_of-says, says-parts_of}
use Rattle.proxy_commands.proofs.laws.reads_the_forms.Goals as goal

pub returns : goal.returns
returns c = record {
  number = λ digits n. (number-decimal_of digits n, decimal_of-number digits n);
  plan = λ text kind allow len. (says-parts_of text kind allow len, parts_of-says text kind allow len);
  line = λ text line. (says-line_of text line, line_of-says text line);
}
