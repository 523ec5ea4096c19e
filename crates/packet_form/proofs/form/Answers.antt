-- `packet_form::form` meets its contract: each return is the first of D1 to D3 that applies.
use borrow.Author.Rules.{rules}
use Rattle.packet_form.proofs.Forms.{form_length, form_code, form_tiled, form_untiled}
use Rattle.packet_form.proofs.form.Goals as goal

pub returns-then-bad_length : goal.returns-then-bad_length
returns-then-bad_length c = search (rules, form_length)

pub returns-then-not-request_code : goal.returns-then-not-request_code
returns-then-not-request_code c = search (rules, form_code)

pub returns-then-tiles : goal.returns-then-tiles
returns-then-tiles c = search (rules, form_tiled)

pub returns : goal.returns
returns c = search (rules, form_untiled)
