use Rattle.night_picture.proofs.EscapeLaws.{leaves_no_markup}
use Rattle.night_picture.proofs.shapes.escaped_texts_have_no_markup.Goals as goal

pub returns : goal.returns
returns c = leaves_no_markup
