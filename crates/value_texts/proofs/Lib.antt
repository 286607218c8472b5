mod Letters
mod TextEquations
mod Separated
