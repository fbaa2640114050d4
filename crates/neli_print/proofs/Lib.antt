mod Loops
