-- `Digits` has digits of one base taken as those of another, and `CodeSigned` how the code holds an integer.
pub mod Digits
pub mod CodeSigned
