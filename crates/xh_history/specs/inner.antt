-- What the seats at the table know, and the rule that they keep. No promise needs it to be read.
pub mod Views
